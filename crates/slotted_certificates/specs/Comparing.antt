-- What comparing the first piece of a row with one of a term says.
use Rattle.std.specs.Prelude.{◌≡◌, ℕ, List, ◌∷◌}
use Rattle.slotted_check.specs.declared.pieces.Piece.{Piece}
use Rattle.slotted_certificates.specs.declared.substitution.Comparison.{Comparison}
use Rattle.slotted_certificates.specs.declared.substitution.Comparison.TheVariants.{Agrees, Differs, TooLarge}
use Rattle.slotted_certificates.specs.Turning.{ComesDownTo, Differ}

abbrev pub ComparesAs : (ℕ → ℕ) → ℕ → List Piece → Piece → Comparison → Type 0
ComparesAs f k row piece (Agrees behind n) = (r later : List Piece) → r ≡ piece ∷ later → ComesDownTo f k n row behind.now r later
ComparesAs f k row piece Differs = (r later : List Piece) → r ≡ piece ∷ later → Differ f k row r
ComparesAs f k row piece TooLarge = Unit {0}
