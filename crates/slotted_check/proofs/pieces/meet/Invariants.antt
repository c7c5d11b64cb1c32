use Rattle.std.proofs.Common.{◌≡◌, ℕ, length}
use Rattle.slotted_check.specs.Renamings.{Agrees, Extends}
use Rattle.slotted_check.specs.Rows.{lifts, moved_row}
use Rattle.slotted_check.proofs.pieces.meet.Given as goal

abbrev pub invariant-loop-left : goal.invariant-loop-left
invariant-loop-left l = record {
  left : Extends l.fn.left l.left;
  right : Extends l.fn.right l.right;
  moves : (f g : ℕ → ℕ) → Agrees f l.left → Agrees g l.right → moved_row (lifts l.depth f) l.ones ≡ moved_row (lifts l.depth g) l.twos →
      moved_row f l.fn.one ≡ moved_row g l.fn.two;
}

abbrev pub decreases-loop-left : goal.decreases-loop-left
decreases-loop-left l = length l.ones
