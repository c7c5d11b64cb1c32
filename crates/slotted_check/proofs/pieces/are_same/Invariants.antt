use Rattle.std.proofs.Common.{◌≡◌, length}
use Rattle.slotted_check.proofs.pieces.are_same.Given as goal

abbrev pub invariant-loop-left : goal.invariant-loop-left
invariant-loop-left l = l.left ≡ l.right → l.fn.one ≡ l.fn.two

abbrev pub decreases-loop-left : goal.decreases-loop-left
decreases-loop-left l = length l.left
