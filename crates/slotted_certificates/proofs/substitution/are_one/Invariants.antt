use Rattle.std.proofs.Common.{◌≡◌, length}
use Rattle.slotted_certificates.proofs.substitution.are_one.Given as goal

abbrev pub invariant-loop-piece : goal.invariant-loop-piece
invariant-loop-piece l = record {
  forth : l.left ≡ l.right → l.fn.one ≡ l.fn.two;
  back : l.fn.one ≡ l.fn.two → l.left ≡ l.right;
}

abbrev pub decreases-loop-piece : goal.decreases-loop-piece
decreases-loop-piece l = length l.left
