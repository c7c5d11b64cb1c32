-- What the lines of a proof say.
--     SaysLine lines l r     one of the lines is l = r up to a renaming
use Rattle.std.specs.Prelude.{◌≡◌, ◌<◌, List, ◌++◌, length, Contains}
use Rattle.slotted_check.specs.declared.pieces.Piece.{Piece}
use Rattle.slotted_check.specs.declared.steps.Equation.{Equation}
use Rattle.slotted_check.specs.Rows.{SaysAs}

pub record SaysLine (lines : List Equation) (l r : List Piece) : Type 0 where
  pub line : Equation
  pub among : Contains lines line
  pub says : SaysAs line.left.items line.right.items l r

-- the sides of the line, under one renaming, are passed in front of both rows
pub record PassesPart (line : Equation) (ls rs xs ys : List Piece) : Type 0 where
  pub first : List Piece
  pub second : List Piece
  pub left : ls ≡ first ++ xs
  pub right : rs ≡ second ++ ys
  pub says : SaysAs line.left.items line.right.items first second
  pub shorter : length xs < length ls
