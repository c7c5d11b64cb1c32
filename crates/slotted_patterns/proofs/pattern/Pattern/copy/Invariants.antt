-- What is left to be copied, and the copies that are parts of none so far.
use Rattle.std.proofs.Common.{length, map}
use Rattle.slotted_patterns.specs.View.{tree_of}
use Rattle.slotted_patterns.proofs.Folds.{Folds}
use Rattle.slotted_patterns.proofs.pattern.Pattern.copy.Given as goal

abbrev pub invariant-loop-next : goal.invariant-loop-next
invariant-loop-next g l =
    let tree = tree_of g.L.LanguageChildren.form in
    Folds (tree l.self) (map (λ p. tree p.now) l.left.items) (map tree l.copies.items)

abbrev pub decreases-loop-next : goal.decreases-loop-next
decreases-loop-next g l = length l.left.items
