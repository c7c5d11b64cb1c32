-- What was added, what is left, and the ids of the terms that were completed.
use Rattle.std.proofs.Common.{length, map}
use Rattle.slotted_proofs.specs.Equations.{to_applied}
use Rattle.slotted_terms.specs.Flat.{flat_of}
use Rattle.slotted_operations.proofs.Additions.TermAddition.{IsAdded}
use Rattle.slotted_operations.proofs.adding.add_syn_expr.Given as goal

abbrev pub invariant-loop-next : goal.invariant-loop-next
invariant-loop-next g l =
    record { added : IsAdded l.term l.fn.table l.fn.store l.fn.nodes l.table l.store l.nodes (flat_of g.L.LanguageChildren.form l.left.items) (map to_applied l.answers.items) }

abbrev pub decreases-loop-next : goal.decreases-loop-next
decreases-loop-next g l = length l.left.items
