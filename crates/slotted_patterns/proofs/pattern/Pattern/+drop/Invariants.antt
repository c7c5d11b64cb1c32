-- No pattern that is left is deeper than the whole, and all together get smaller.
use Rattle.std.proofs.Common.{◌+◌, ◌≤◌}
use denote.Param.Weighed.{most}
use Rattle.slotted_patterns.proofs.PatternSizes.{depth, size, sizes}
use Rattle.slotted_patterns.proofs.pattern.Pattern.+drop.Given as goal

abbrev pub invariant-loop-self : goal.invariant-loop-self
invariant-loop-self g l = (depth l.self ≤ depth l.fn.self) × (most depth l.left.items ≤ depth l.fn.self)

abbrev pub decreases-loop-self : goal.decreases-loop-self
decreases-loop-self g l = size g.L.LanguageChildren.form l.self + sizes g.L.LanguageChildren.form l.left.items
