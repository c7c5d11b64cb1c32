-- What follows from the lines of a certificate.
--     IsClaim ops bs text t u            the text claims that t and u are equal
--     IsGivenIn ops bs lines t u         one of the lines gives t = u
--     FollowsFrom ops bs lines text      the text claims an equation that is derivable from some that the lines give
use Rattle.std.specs.Prelude.{ℕ, Bool, if◌then◌else◌, List, [], Contains, codes}
use Rattle.slotted_theory.specs.Term.{Term}
use Rattle.slotted_theory.specs.Nameless.{nameless}
use Rattle.slotted_theory.specs.Derives.{Derives}
use Rattle.slotted_check.specs.declared.steps.Equation.{Equation}
use Rattle.slotted_check.specs.Derived.{IsRowsOf}
use Rattle.slotted_certificates.specs.declared.tokens.Token.{Token}
use Rattle.slotted_certificates.specs.Grammar.{IsTermOf, binds_in}
use Rattle.slotted_certificates.specs.Meaning.{IsValueIn}
use Rattle.slotted_certificates.specs.Given.{AreDifferent, IsSidesText}
use Rattle.slotted_certificates.specs.Rules.{IsGivenBy}
use Rattle.slotted_certificates.specs.Texts.{words}

-- the two forms of a claim
abbrev pub claim_opening : Bool → List ℕ
claim_opening asks = if asks then codes "ask" else codes "explain"

abbrev pub claim_sign : Bool → List ℕ
claim_sign asks = if asks then codes " =" else codes " =="

pub record IsClaim (ops : List (List ℕ)) (bs : List ℕ) (text : List ℕ) (t u : Term) : Type 0 where
  pub asks : Bool
  pub slots : List (List ℕ)
  pub different : AreDifferent slots
  pub left : List Token
  pub right : List Token
  pub is : IsSidesText (words ops slots []) (claim_opening asks) left (claim_sign asks) right text
  pub left_is : IsTermOf (binds_in bs) (IsValueIn []) (λ y. y) left (nameless t)
  pub right_is : IsTermOf (binds_in bs) (IsValueIn []) (λ y. y) right (nameless u)

pub record IsGivenIn (ops : List (List ℕ)) (bs : List ℕ) (lines : List (List ℕ)) (t u : Term) : Type 0 where
  pub line : List ℕ
  pub among : Contains lines line
  pub gives : IsGivenBy ops bs line t u

-- no two operators have one word, so that words tell them apart, and tell which ones bind
pub record FollowsFrom (ops : List (List ℕ)) (bs : List ℕ) (lines : List (List ℕ)) (text : List ℕ) : Type 0 where
  pub different : AreDifferent ops
  pub left : Term
  pub right : Term
  pub claim : IsClaim ops bs text left right
  pub pairs : List (Term × Term)
  pub given : (p : Term × Term) → Contains pairs p → IsGivenIn ops bs lines p.0 p.1
  pub derives : Derives pairs left right

-- terms of which the equation e has the rows
pub record GivenRows (ops : List (List ℕ)) (bs : List ℕ) (lines : List (List ℕ)) (e : Equation) : Type 0 where
  pub left : Term
  pub right : Term
  pub rows : IsRowsOf (left, right) e
  pub given : IsGivenIn ops bs lines left right

pub record ClaimRows (ops : List (List ℕ)) (bs : List ℕ) (text : List ℕ) (e : Equation) : Type 0 where
  pub left : Term
  pub right : Term
  pub rows : IsRowsOf (left, right) e
  pub claim : IsClaim ops bs text left right

pub record LineRows (ops : List (List ℕ)) (bs : List ℕ) (line : List ℕ) (e : Equation) : Type 0 where
  pub left : Term
  pub right : Term
  pub rows : IsRowsOf (left, right) e
  pub gives : IsGivenBy ops bs line left right
