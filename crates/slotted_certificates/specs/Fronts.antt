-- Whether a row begins with a term.
use Rattle.std.specs.Prelude.{◌≡◌, ℕ, List, ◌++◌}
use Rattle.slotted_check.specs.declared.pieces.Piece.{Piece}
use Rattle.slotted_check.specs.Rows.{moved_row}
use Rattle.slotted_certificates.specs.declared.substitution.Front.{Front}
use Rattle.slotted_certificates.specs.declared.substitution.Front.TheVariants.{Term, Other, TooLarge}

abbrev pub FrontIs : (ℕ → ℕ) → List Piece → List Piece → Front → Type 0
FrontIs f row term (Term behind) = row ≡ moved_row f term ++ behind.now
FrontIs f row term Other = (later : List Piece) → ¬ (row ≡ moved_row f term ++ later)
FrontIs f row term TooLarge = Unit {0}
