-- A claim that is derivable from equations that lines give.
use Rattle.std.proofs.Common.{ℕ, List, [], ◌∷◌, sym, subst, inl, inr}
use Rattle.std.specs.Prelude.{Bool, All, Contains}
use Rattle.std.proofs.lemmas.List.Elements.{All-contains}
use Rattle.slotted_lists.proofs.Contained.{Contains-nil, contains_cases, contains_head, contains_tail}
use Rattle.slotted_theory.specs.Term.{Term}
use Rattle.slotted_check.specs.declared.steps.Equation.{Equation}
use Rattle.slotted_check.specs.Derived.{IsDerived, IsOneOf}
use Rattle.slotted_certificates.specs.declared.tokens.Token.{Token}
use Rattle.slotted_certificates.specs.Meaning.{IsInstance}
use Rattle.slotted_certificates.specs.Given.{AreDifferent, IsSidesText}
use Rattle.slotted_certificates.specs.Following.{ClaimRows, FollowsFrom, GivenRows, IsGivenIn, LineRows, claim_opening, claim_sign}
use Rattle.slotted_certificates.specs.Texts.{words}
use Rattle.slotted_certificates.proofs.GivenRows.{named, rows-named}

pub rows-claimed : (ops : List (List ℕ)) (bs : List ℕ) (text : List ℕ) (asks : Bool) (slots : List (List ℕ)) (l r : List Token) (e : Equation) → AreDifferent slots →
    IsSidesText (words ops slots []) (claim_opening asks) l (claim_sign asks) r text → IsInstance bs [] l e.left.items → IsInstance bs [] r e.right.items → ClaimRows ops bs text e
rows-claimed ops bs text asks slots l r e different is left right =
    let h = named bs [] l e.left.items left in
    let k = named bs [] r e.right.items right in
    record {
      left = h.term;
      right = k.term;
      rows = rows-named bs [] l r e h k;
      claim = record { asks = asks; slots = slots; different = different; left = l; right = r; is = is; left_is = h.is; right_is = k.is };
    }

-- pairs of terms that lines give, of which equations are the rows
record Collected (ops : List (List ℕ)) (bs : List ℕ) (lines : List (List ℕ)) (es : List Equation) : Type 0 where
  pairs : List (Term × Term)
  given : (p : Term × Term) → Contains pairs p → IsGivenIn ops bs lines p.0 p.1
  one : (e : Equation) → Contains es e → IsOneOf pairs e

collected : (ops : List (List ℕ)) (bs : List ℕ) (lines : List (List ℕ)) (es : List Equation) → ((e : Equation) → Contains es e → GivenRows ops bs lines e) → Collected ops bs lines es
collected ops bs lines [] h = record { pairs = []; given = λ p c. absurd (Contains-nil p c); one = λ e c. absurd (Contains-nil e c) }
collected ops bs lines (e ∷ es) h =
    let rest = collected ops bs lines es (λ f c. h f (contains_tail e es f c)) in
    let first = h e (contains_head e es) in
    let pair : Term × Term = (first.left, first.right) in
    record {
      pairs = pair ∷ rest.pairs;
      given = λ p c. elim (contains_cases pair rest.pairs p c) [
        | inl d ↦ subst (λ q. IsGivenIn ops bs lines q.0 q.1) (sym d) first.given
        | inr k ↦ rest.given p k
      ];
      one = λ f c. elim (contains_cases e es f c) [
        | inl d ↦ subst (IsOneOf (pair ∷ rest.pairs)) (sym d) (record { pair = pair; among = contains_head pair rest.pairs; rows = first.rows })
        | inr k ↦ let one = rest.one f k in record { pair = one.pair; among = contains_tail pair rest.pairs one.pair one.among; rows = one.rows }
      ];
    }

pub follows : (ops : List (List ℕ)) (bs : List ℕ) (lines : List (List ℕ)) (text : List ℕ) (es : List Equation) (e : Equation) → AreDifferent ops →
    All (GivenRows ops bs lines) es → ClaimRows ops bs text e → IsDerived es e → FollowsFrom ops bs lines text
follows ops bs lines text es e different all claim derived =
    let c = collected ops bs lines es (λ f k. All-contains (GivenRows ops bs lines) es f all k) in
    record {
      different = different;
      left = claim.left;
      right = claim.right;
      claim = claim.claim;
      pairs = c.pairs;
      given = c.given;
      derives = derived c.pairs c.one claim.left claim.right claim.rows;
    }

-- what a line gives that stands among the lines
pub given-in : (ops : List (List ℕ)) (bs : List ℕ) (lines : List (List ℕ)) (line : List ℕ) (e : Equation) → Contains lines line → LineRows ops bs line e → GivenRows ops bs lines e
given-in ops bs lines line e among h = record { left = h.left; right = h.right; rows = h.rows; given = record { line = line; among = among; gives = h.gives } }
