-- What the terms that were taken are looked up as waits.
use Rattle.std.proofs.Common.{length, map}
use Rattle.slotted_patterns.specs.Tree.{PatternTree}
use Rattle.slotted_terms.specs.Flat.{flat_of}
use Rattle.slotted_terms.specs.TermPattern.{IsPatternOf}
use Rattle.slotted_proofs.specs.Equations.{to_applied}
use Rattle.slotted_rules.proofs.LookedStack.{Looks}
use Rattle.slotted_rules.proofs.looking_up.lookup_rec_expr.Given as goal

abbrev pub invariant-loop-next : goal.invariant-loop-next
invariant-loop-next g l =
    (p : PatternTree) × IsPatternOf p l.term × Looks l.graph p (flat_of g.L.LanguageChildren.form l.left.items) (map to_applied l.ids.items)

abbrev pub decreases-loop-next : goal.decreases-loop-next
decreases-loop-next g l = length l.left.items
