-- What a rule of a certificate gives: equations between its instances.
--     conditions_text w b cs       the text of conditions, each behind ` and`, but for the first of all (b), which stands behind ` if`
--     Holds vs c                   the condition c holds of the values vs
--     IsRuleInstance ops bs line t u     t and u are instances of the sides of the line's rule, with the same values, of which its conditions hold
--     IsGivenBy ops bs line t u    the line asserts t = u, or this is an instance of its rule, or of its rule turned round if that goes both ways
use Rattle.std.specs.Prelude.{◌≡◌, ◌⊎◌, ℕ, Bool, true, false, if◌then◌else◌, List, [], ◌∷◌, ◌++◌, length, map, Option, Some, IsTrue, slice_get, codes}
use Rattle.slotted_theory.specs.Term.{Term}
use Rattle.slotted_theory.specs.Nameless.{DTerm, nameless}
use Rattle.slotted_check.specs.declared.pieces.Piece.{Piece}
use Rattle.slotted_check.specs.declared.steps.Equation.{Equation}
use Rattle.slotted_check.specs.Derived.{IsRowsOf}
use Rattle.slotted_certificates.specs.declared.rules.Condition.{Condition}
use Rattle.slotted_certificates.specs.declared.tokens.Token.{Token}
use Rattle.slotted_certificates.specs.Free.{IsFreeName}
use Rattle.slotted_certificates.specs.Given.{AreDifferent, IsAsserted, IsSidesText}
use Rattle.slotted_certificates.specs.Grammar.{IsTermOf, binds_in}
use Rattle.slotted_certificates.specs.Meaning.{IsValueIn}
use Rattle.slotted_certificates.specs.declared.puts.Put.{Put}
use Rattle.slotted_certificates.specs.Puts.{AreTexts, AreValues}
use Rattle.slotted_certificates.specs.Texts.{Adds, Words, is_word, spelled, together, words}

abbrev pub AreWords : List (List ℕ) → Type 0
AreWords [] = Unit {0}
AreWords (v ∷ vs) = IsTrue (is_word v) × AreWords vs

-- the texts of variables
abbrev pub variable_texts : List (List ℕ) → List (List ℕ)
variable_texts vs = map (λ v. codes "?" ++ v) vs

abbrev pub occurrence_text : Bool → List ℕ
occurrence_text is_free = if is_free then codes " in " else codes " not in "

abbrev pub condition_text : Words → Condition → Option (List ℕ)
condition_text w c = together (spelled (codes " $") (slice_get w.slots c.slot)) (together (Some (occurrence_text c.is_free)) (slice_get w.values c.variable))

abbrev pub before_condition : Bool → List ℕ
before_condition is_first = if is_first then codes " if" else codes " and"

abbrev pub conditions_text : Words → Bool → List Condition → Option (List ℕ)
conditions_text w is_first [] = Some []
conditions_text w is_first (c ∷ cs) = together (Some (before_condition is_first)) (together (condition_text w c) (conditions_text w false cs))

-- the slot is free in the value of the variable, or is not, as it was asked
abbrev pub IsAsAsked : Bool → ℕ → DTerm → Type 0
IsAsAsked true x d = IsFreeName x d
IsAsAsked false x d = ¬ IsFreeName x d

pub record Holds (vs : List (List Piece)) (c : Condition) : Type 0 where
  pub value : DTerm
  pub is : IsValueIn vs c.variable value
  pub asked : IsAsAsked c.is_free c.slot value

abbrev pub EachHolds : List (List Piece) → List Condition → Type 0
EachHolds vs [] = Unit {0}
EachHolds vs (c ∷ cs) = Holds vs c × EachHolds vs cs

-- the sign of a rule that goes one way, and of one that goes both ways
abbrev pub rule_sign : Bool → List ℕ
rule_sign both = if both then codes " <=>" else codes " =>"

-- the text of a rule by its parts
pub record IsRuleText (w : Words) (name : List ℕ) (both : Bool) (left right : List Token) (conditions : List Condition) (line : List ℕ) : Type 0 where
  pub sides : List ℕ
  pub asked : List ℕ
  pub sides_are : IsSidesText w (codes "rule " ++ (name ++ codes ":")) left (rule_sign both) right sides
  pub asked_are : conditions_text w true conditions ≡ Some asked
  pub is : line ≡ sides ++ asked

-- a line is a rule of these parts, and no two of its slots or variables have one word
pub record IsRuleOf (ops slots variables : List (List ℕ)) (puts : List Put) (name : List ℕ) (both : Bool) (left right : List Token) (conditions : List Condition) (line : List ℕ) : Type 0 where
  pub slots_differ : AreDifferent slots
  pub variables_differ : AreDifferent variables
  pub variables_are : AreWords variables
  pub texts : List (List ℕ)
  pub texts_are : AreTexts ops slots (variable_texts variables) puts texts
  pub text : IsRuleText (words ops slots texts) name both left right conditions line

pub record IsRuleInstance (ops : List (List ℕ)) (bs : List ℕ) (line : List ℕ) (both : Bool) (t u : Term) : Type 0 where
  pub slots : List (List ℕ)
  pub variables : List (List ℕ)
  pub puts : List Put
  pub name : List ℕ
  pub left : List Token
  pub right : List Token
  pub conditions : List Condition
  pub rule : IsRuleOf ops slots variables puts name both left right conditions line
  -- one for each variable, and then one for each substitution
  pub values : List (List Piece)
  pub as_many : length values ≡ length variables
  pub all : List (List Piece)
  pub all_are : AreValues bs values puts all
  pub hold : EachHolds values conditions
  pub left_is : IsTermOf (binds_in bs) (IsValueIn all) (λ y. y) left (nameless t)
  pub right_is : IsTermOf (binds_in bs) (IsValueIn all) (λ y. y) right (nameless u)

abbrev pub IsGivenBy : List (List ℕ) → List ℕ → List ℕ → Term → Term → Type 0
IsGivenBy ops bs line t u =
    IsAsserted ops bs line t u ⊎ (((both : Bool) × IsRuleInstance ops bs line both t u) ⊎ IsRuleInstance ops bs line true u t)

-- the text of the first condition is added behind a text, and the conditions ds are behind that
pub record AddsCondition (w : Words) (before : List ℕ) (cs ds : List Condition) (old new : List ℕ) : Type 0 where
  pub condition : Condition
  pub is : cs ≡ condition ∷ ds
  pub adds : Adds (condition_text w condition) (old ++ before) new

-- terms of which the equation e has the rows
pub record InstanceRows (ops : List (List ℕ)) (bs : List ℕ) (line : List ℕ) (both : Bool) (e : Equation) : Type 0 where
  pub left : Term
  pub right : Term
  pub rows : IsRowsOf (left, right) e
  pub is : IsRuleInstance ops bs line both left right
