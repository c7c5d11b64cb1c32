-- The child patterns from the place on were added.
use Rattle.std.proofs.Common.{◌≡◌, ◌≤◌, ◌++◌, length}
use Rattle.slotted_matching.specs.Wanted.{wanted}
use Rattle.slotted_matching.proofs.WantedPatterns.{from_place}
use Rattle.slotted_matching.proofs.compile.push_children.Given as goal

abbrev pub invariant-loop-child : goal.invariant-loop-child
invariant-loop-child g l =
    let form = g.L.LanguageChildren.form in
    record {
      within : l.child ≤ length l.children;
      added : wanted form l.left.items ≡ from_place form l.register l.child l.children ++ wanted form l.initial.left.items;
    }

abbrev pub decreases-loop-child : goal.decreases-loop-child
decreases-loop-child g l = l.child
