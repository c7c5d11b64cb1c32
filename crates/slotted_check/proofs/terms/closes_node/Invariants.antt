use Rattle.std.proofs.Common.{[], ◌∷◌, length}
use Rattle.slotted_check.specs.Openings.{Closes, ends}
use Rattle.slotted_check.specs.Rows.{closing}
use Rattle.slotted_check.proofs.terms.closes_node.Given as goal

abbrev pub invariant-loop-rest : goal.invariant-loop-rest
invariant-loop-rest l = Closes (ends l.open.items) l.rest → Closes (closing ∷ []) l.fn.row

abbrev pub decreases-loop-rest : goal.decreases-loop-rest
decreases-loop-rest l = length l.rest
