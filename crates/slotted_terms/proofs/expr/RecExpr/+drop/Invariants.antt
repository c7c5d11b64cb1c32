-- The terms that are left are together smaller than the whole.
use Rattle.std.proofs.Common.{◌≤◌}
use Rattle.slotted_theory.specs.Term.{term_size}
use Rattle.slotted_terms.proofs.SubtermSizes.{total}
use Rattle.slotted_terms.proofs.expr.RecExpr.+drop.Given as goal

abbrev pub invariant-loop-next : goal.invariant-loop-next
invariant-loop-next g l = total l.left.items ≤ term_size l.fn.self

abbrev pub decreases-loop-next : goal.decreases-loop-next
decreases-loop-next g l = total l.left.items
