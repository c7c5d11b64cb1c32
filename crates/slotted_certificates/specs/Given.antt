-- What lines of a certificate give: equations of terms.
--     AreDifferent ws                  no two words are one
--     IsSidesText w a l s r bs         bs is the text a, the text of the parts l, the sign s and the text of the parts r
--     IsAsserted ops bs line t u       the line asserts that t and u are equal, where the operators have the words ops and those of bs bind
use Rattle.std.specs.Prelude.{◌≡◌, ℕ, List, [], ◌∷◌, ◌++◌, Option, Some, None, Contains, codes}
use Rattle.slotted_theory.specs.Term.{Term}
use Rattle.slotted_theory.specs.Nameless.{nameless}
use Rattle.slotted_check.specs.declared.steps.Equation.{Equation}
use Rattle.slotted_check.specs.Derived.{IsRowsOf}
use Rattle.slotted_certificates.specs.declared.tokens.Token.{Token}
use Rattle.slotted_certificates.specs.Grammar.{IsTermOf, binds_in}
use Rattle.slotted_certificates.specs.Meaning.{IsValueIn}
use Rattle.slotted_certificates.specs.Texts.{Words, text_of, words}

abbrev pub AreDifferent : List (List ℕ) → Type 0
AreDifferent [] = Unit {0}
AreDifferent (w ∷ ws) = (¬ Contains ws w) × AreDifferent ws

pub record IsSidesText (w : Words) (opening : List ℕ) (left : List Token) (sign : List ℕ) (right : List Token) (text : List ℕ) : Type 0 where
  pub left_text : List ℕ
  pub right_text : List ℕ
  pub left_spelled : text_of w left ≡ Some left_text
  pub right_spelled : text_of w right ≡ Some right_text
  pub is : text ≡ opening ++ (left_text ++ (sign ++ right_text))

-- what an assertion begins with, and its sign: with a name or without
abbrev pub assertion_opening : Option (List ℕ) → List ℕ
assertion_opening None = codes "union"
assertion_opening (Some name) = codes "assert " ++ (name ++ codes ":")

abbrev pub assertion_sign : Option (List ℕ) → List ℕ
assertion_sign None = codes " =="
assertion_sign (Some name) = codes " ="

-- the sides of an assertion are terms without variables: no value has a text
pub record IsAsserted (ops : List (List ℕ)) (bs : List ℕ) (line : List ℕ) (t u : Term) : Type 0 where
  pub name : Option (List ℕ)
  pub slots : List (List ℕ)
  pub different : AreDifferent slots
  pub left : List Token
  pub right : List Token
  pub text : IsSidesText (words ops slots []) (assertion_opening name) left (assertion_sign name) right line
  pub left_is : IsTermOf (binds_in bs) (IsValueIn []) (λ y. y) left (nameless t)
  pub right_is : IsTermOf (binds_in bs) (IsValueIn []) (λ y. y) right (nameless u)

-- a pair of terms of which the equation e has the rows
pub record AssertsRows (ops : List (List ℕ)) (bs : List ℕ) (line : List ℕ) (e : Equation) : Type 0 where
  pub left : Term
  pub right : Term
  pub rows : IsRowsOf (left, right) e
  pub asserted : IsAsserted ops bs line left right
