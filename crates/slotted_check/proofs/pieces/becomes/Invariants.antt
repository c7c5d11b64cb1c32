use Rattle.std.proofs.Common.{◌≡◌, ℕ, length}
use Rattle.slotted_check.specs.Renamings.{Agrees, Extends}
use Rattle.slotted_check.specs.Rows.{lifts, moved_row}
use Rattle.slotted_check.proofs.pieces.becomes.Given as goal

abbrev pub invariant-loop-names : goal.invariant-loop-names
invariant-loop-names l = record {
  extends : Extends l.fn.names l.names;
  moves : (f : ℕ → ℕ) → Agrees f l.names → moved_row (lifts l.depth f) l.left ≡ l.right → moved_row f l.fn.one ≡ l.fn.two;
}

abbrev pub decreases-loop-names : goal.decreases-loop-names
decreases-loop-names l = length l.left
