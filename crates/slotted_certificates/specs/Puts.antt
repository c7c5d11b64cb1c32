-- Substitutions in the sides of rules: each is a value of its own, made of the values before it.
--     put_text w p            the text of the substitution p, as `b[x := t]`
--     AreTexts ops slots texts ps all       all are the texts and those of the substitutions ps, in turn
--     IsPut bs vs p ps        ps is the row of what the substitution p is, with the values vs
--     AreValues bs vs ps all  all are the values vs and those of the substitutions ps, in turn
use Rattle.std.specs.Prelude.{◌≡◌, ℕ, List, [], ◌∷◌, ◌++◌, Option, Some, codes}
use Rattle.slotted_theory.specs.Nameless.{DTerm}
use Rattle.slotted_check.specs.declared.pieces.Piece.{Piece}
use Rattle.slotted_check.specs.Rows.{row, IsPlain}
use Rattle.slotted_certificates.specs.declared.puts.Put.{Put}
use Rattle.slotted_certificates.specs.Grammar.{IsTermOf, binds_in}
use Rattle.slotted_certificates.specs.Meaning.{IsValueIn}
use Rattle.slotted_certificates.specs.Substitution.{Substitutes}
use Rattle.slotted_certificates.specs.Texts.{Words, bare_text_of, text_of, together, words}

abbrev pub body_and_part_text : Words → Put → Option (List ℕ)
body_and_part_text w p = together (bare_text_of w p.body.items) (together (Some (codes "[")) (bare_text_of w p.part.items))

abbrev pub put_text : Words → Put → Option (List ℕ)
put_text w p = together (body_and_part_text w p) (together (Some (codes " :=")) (together (text_of w p.value.items) (Some (codes "]"))))

-- the text of the next one, and then the others
pub record NextText (ops slots texts : List (List ℕ)) (p : Put) (Others : List (List ℕ) → Type 0) : Type 0 where
  pub text : List ℕ
  pub is : put_text (words ops slots texts) p ≡ Some text
  pub others : Others (texts ++ text ∷ [])

abbrev pub AreTexts : List (List ℕ) → List (List ℕ) → List (List ℕ) → List Put → List (List ℕ) → Type 0
AreTexts ops slots texts [] all = all ≡ texts
AreTexts ops slots texts (p ∷ ps) all = NextText ops slots texts p (λ more. AreTexts ops slots more ps all)

pub record IsPut (bs : List ℕ) (vs : List (List Piece)) (p : Put) (ps : List Piece) : Type 0 where
  pub body : DTerm
  pub part : DTerm
  pub value : DTerm
  pub result : DTerm
  pub body_is : IsTermOf (binds_in bs) (IsValueIn vs) (λ y. y) p.body.items body
  pub part_is : IsTermOf (binds_in bs) (IsValueIn vs) (λ y. y) p.part.items part
  pub value_is : IsTermOf (binds_in bs) (IsValueIn vs) (λ y. y) p.value.items value
  pub puts : Substitutes part value body result
  pub plain : IsPlain result
  pub pieces : ps ≡ row result

-- the value of the next one, and then the others
pub record NextValue (bs : List ℕ) (vs : List (List Piece)) (p : Put) (Others : List (List Piece) → Type 0) : Type 0 where
  pub pieces : List Piece
  pub is : IsPut bs vs p pieces
  pub others : Others (vs ++ pieces ∷ [])

abbrev pub AreValues : List ℕ → List (List Piece) → List Put → List (List Piece) → Type 0
AreValues bs vs [] all = all ≡ vs
AreValues bs vs (p ∷ ps) all = NextValue bs vs p (λ more. AreValues bs more ps all)

-- the text of a substitution is added to the texts before it
pub record AddsText (ops slots texts : List (List ℕ)) (p : Put) (all : List (List ℕ)) : Type 0 where
  pub text : List ℕ
  pub is : put_text (words ops slots texts) p ≡ Some text
  pub all_is : all ≡ texts ++ text ∷ []

pub record AddsValue (bs : List ℕ) (vs : List (List Piece)) (p : Put) (all : List (List Piece)) : Type 0 where
  pub pieces : List Piece
  pub is : IsPut bs vs p pieces
  pub all_is : all ≡ vs ++ pieces ∷ []
