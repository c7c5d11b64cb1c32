use Rattle.std.proofs.Common.{◌≡◌, ◌≤◌, length, take}
use Rattle.std.specs.Prelude.{◌↔◌}
use Rattle.slotted_theory.specs.Shape.{number_in}
use Rattle.slotted_outlines.specs.Seen.{lefts, rights}
use Rattle.slotted_outlines.proofs.outlines.same_name.Given as goal

abbrev pub invariant-loop-depth : goal.invariant-loop-depth
invariant-loop-depth l = record {
  within : l.depth ≤ length l.binders;
  same : (number_in (lefts (take l.depth l.binders)) l.x ≡ number_in (rights (take l.depth l.binders)) l.y) ↔ (number_in (lefts l.binders) l.x ≡ number_in (rights l.binders) l.y);
}

abbrev pub decreases-loop-depth : goal.decreases-loop-depth
decreases-loop-depth l = l.depth
