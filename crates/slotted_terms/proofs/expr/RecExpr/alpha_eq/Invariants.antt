-- The whole terms are one exactly if those of the pairs that are left are.
use Rattle.slotted_theory.specs.Nameless.{Alpha}
use Rattle.slotted_terms.specs.LargeNodes.{HasLargeNode}
use Rattle.slotted_terms.specs.Pairs.{left_sizes}
use Rattle.slotted_terms.proofs.PairLists.{AreLeft}
use Rattle.slotted_terms.proofs.expr.RecExpr.alpha_eq.Given as goal

abbrev pub invariant-loop-pair : goal.invariant-loop-pair
invariant-loop-pair g l = record { left : AreLeft (Alpha l.self l.other) (HasLargeNode l.self) (HasLargeNode l.other) l.binders.items l.left.items }

abbrev pub decreases-loop-pair : goal.decreases-loop-pair
decreases-loop-pair g l = left_sizes l.left.items
