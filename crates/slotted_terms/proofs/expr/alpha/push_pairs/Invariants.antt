-- The children from the place k on were added.
use Rattle.std.proofs.Common.{◌≡◌, ◌≤◌, length}
use Rattle.slotted_terms.specs.Pairs.{AddsPairs}
use Rattle.slotted_terms.proofs.expr.alpha.push_pairs.Given as goal

abbrev pub invariant-loop-k : goal.invariant-loop-k
invariant-loop-k g l =
    let form = g.L.LanguageChildren.form in
    record {
      within : l.k ≤ length l.ones;
      kept : l.binders.items ≡ l.initial.binders.items;
      pairs : AddsPairs (form l.nodes.one) (form l.nodes.two) l.initial.binders.items l.ones l.twos l.k l.initial.left.items l.left.items;
    }

abbrev pub decreases-loop-k : goal.decreases-loop-k
decreases-loop-k g l = l.k
