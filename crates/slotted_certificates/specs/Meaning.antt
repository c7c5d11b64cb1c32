-- Which term a text with values is.
--     AreTermRows vs             each of the rows is that of a term
--     IsValueIn vs v d           the row number v is that of the term d
--     IsInstance bs vs ts ps     the parts ts are those of a term with the values vs, where the operators bs bind, and ps is its row
use Rattle.std.specs.Prelude.{◌≡◌, ℕ, List, [], ◌∷◌, Some, slice_get}
use Rattle.slotted_theory.specs.Nameless.{DTerm}
use Rattle.slotted_check.specs.declared.pieces.Piece.{Piece}
use Rattle.slotted_check.specs.Lines.{IsTermRow}
use Rattle.slotted_check.specs.Rows.{row, IsPlain}
use Rattle.slotted_certificates.specs.declared.tokens.Token.{Token}
use Rattle.slotted_certificates.specs.Grammar.{IsTermOf, binds_in}

abbrev pub AreTermRows : List (List Piece) → Type 0
AreTermRows [] = Unit {0}
AreTermRows (ps ∷ vs) = IsTermRow ps × AreTermRows vs

pub record IsValueIn (vs : List (List Piece)) (v : ℕ) (d : DTerm) : Type 0 where
  pub among : slice_get vs v ≡ Some (row d)
  pub plain : IsPlain d

pub record IsInstance (bs : List ℕ) (vs : List (List Piece)) (ts : List Token) (ps : List Piece) : Type 0 where
  pub term : DTerm
  pub is : IsTermOf (binds_in bs) (IsValueIn vs) (λ y. y) ts term
  pub plain : IsPlain term
  pub pieces : ps ≡ row term
