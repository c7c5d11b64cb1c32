-- What follows from given pairs of terms: each pair has to be allowed.
use Rattle.std.specs.Prelude.{◌≡◌, List, All}
use Rattle.slotted_theory.specs.Nameless.{DTerm}
use Rattle.slotted_theory.specs.Derives.{Equal}
use Rattle.slotted_check.specs.Rows.{row, IsPlain}
use Rattle.slotted_check.specs.declared.pieces.Piece.{Piece}

-- d and e are equal by some allowed pairs
pub record Follows (allowed : DTerm × DTerm → Type 0) (d e : DTerm) : Type 0 where
  pub pairs : List (DTerm × DTerm)
  pub each : All allowed pairs
  pub equal : Equal pairs d e

-- two rows are those of terms of which that holds
pub record RowsFollow (allowed : DTerm × DTerm → Type 0) (l r : List Piece) : Type 0 where
  pub left : DTerm
  pub right : DTerm
  pub left_row : l ≡ row left
  pub right_row : r ≡ row right
  pub left_plain : IsPlain left
  pub right_plain : IsPlain right
  pub follows : Follows allowed left right
