use Rattle.std.proofs.Common.{◌≡◌, ◌+◌, ◌++◌, List, length}
use Rattle.slotted_check.specs.declared.pieces.Piece.{Piece}
use Rattle.slotted_check.specs.Rows.{lifts, moved_row}
use Rattle.slotted_certificates.proofs.substitution.front_of.Given as goal

abbrev pub invariant-loop-piece : goal.invariant-loop-piece
invariant-loop-piece l = record {
  forth : (later : List Piece) → l.left ≡ moved_row (lifts l.depth (λ n. n + l.by)) l.rest ++ later → l.fn.row ≡ moved_row (λ n. n + l.by) l.fn.term ++ later;
  back : (later : List Piece) → l.fn.row ≡ moved_row (λ n. n + l.by) l.fn.term ++ later → l.left ≡ moved_row (lifts l.depth (λ n. n + l.by)) l.rest ++ later;
}

abbrev pub decreases-loop-piece : goal.decreases-loop-piece
decreases-loop-piece l = length l.rest
