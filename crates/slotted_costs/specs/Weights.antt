-- Costs that add a weight of the node to the costs of its children, up to the largest number, and that they keep the laws.
use Rattle.std.specs.Prelude.{◌≡◌, ℕ, ◌+◌, ◌<◌, ◌≤◌, min, max, sum, List, [], ◌∷◌, true, Contains}
use Rattle.std.proofs.Common.{refl, arith, inl, inr}
use Rattle.std.specs.Ordering.{nat_cmp, is_le, MatchOrdering}
use Rattle.std.specs.declared.cmp.Ordering.{Ordering}
use Rattle.std.specs.declared.cmp.Ordering.TheVariants.{Less, Equal, Greater}
use Rattle.std.proofs.lemmas.Cmp.{ranked}
use Rattle.std.proofs.lemmas.List.Sums.{sum_by-cons}
use Rattle.std.proofs.lemmas.Map.Keys.{le_from_is_le}
use Rattle.slotted_lists.proofs.Contained.{contains_cases, Contains-nil}
use Rattle.slotted_theory.specs.Nameless.{DTerm}
use Rattle.slotted_nodes.specs.Form.{Form}
use Rattle.slotted_model.specs.Cost.{EachAtMost, dearest}
use Rattle.slotted_costs.specs.Costs.{costs_by, bare_node}
use Rattle.slotted_costs.specs.Laws.{NeverFalls, CoversChildren}
use Rattle.slotted_costs.specs.Size.{largest}

-- over costs within the largest number it is the sum, or the largest number; above it no cost is less than a child's
abbrev pub weighed : (DTerm → ℕ) → DTerm → List ℕ → ℕ
weighed weight d xs = min (weight d + sum xs) (max largest (dearest xs))

not-above : (x y : ℕ) (r : Ordering) → MatchOrdering r (x < y) (x ≡ y) (y < x) → x ≤ y → is_le r ≡ true
not-above x y Less m h = refl
not-above x y Equal m h = refl
not-above x y Greater m h = absurd (omega arith)

ordered : (x y : ℕ) → x ≤ y → is_le (nat_cmp x y) ≡ true
ordered x y h = not-above x y (nat_cmp x y) (ranked x y (nat_cmp x y) refl) h

sum-first : (x : ℕ) (xs : List ℕ) → sum (x ∷ xs) ≡ x + sum xs
sum-first x xs = sum_by-cons (λ y. y) x xs

module _ (weight : DTerm → ℕ) where
  both-rise : (xs ys : List ℕ) → EachAtMost (costs_by nat_cmp (weighed weight)) xs ys → (sum xs ≤ sum ys) × (dearest xs ≤ dearest ys)
  both-rise [] [] h = (omega arith, omega arith)
  both-rise (x ∷ xs) (y ∷ ys) h =
      let r = both-rise xs ys h.1 in
      let a : sum xs ≤ sum ys = r.0 in
      let b : dearest xs ≤ dearest ys = r.1 in
      let le : x ≤ y = le_from_is_le x y h.0 in
      let s : sum (x ∷ xs) ≡ x + sum xs = sum-first x xs in
      let t : sum (y ∷ ys) ≡ y + sum ys = sum-first y ys in
      (omega arith, omega arith)
  both-rise [] (y ∷ ys) h = absurd h
  both-rise (x ∷ xs) [] h = absurd h

each-below : (xs : List ℕ) (x : ℕ) → Contains xs x → (x ≤ sum xs) × (x ≤ dearest xs)
each-below [] x c = absurd (Contains-nil x c)
each-below (y ∷ ys) x c =
    let s : sum (y ∷ ys) ≡ y + sum ys = sum-first y ys in
    elim (contains_cases y ys x c) [
      | inl e ↦ (omega (arith, e), omega (arith, e))
      | inr h ↦ let r = each-below ys x h in let a : x ≤ sum ys = r.0 in let b : x ≤ dearest ys = r.1 in (omega arith, omega arith)
    ]

module _ {L : Type 0} (form : L → Form) (weight : DTerm → ℕ) where
  pub weighed_never_falls : NeverFalls form (costs_by nat_cmp (weighed weight))
  weighed_never_falls n xs ys fits h =
      let d = bare_node (form n) in
      let r = both-rise weight xs ys h in
      let a : sum xs ≤ sum ys = r.0 in
      let b : dearest xs ≤ dearest ys = r.1 in
      ordered (weighed weight d xs) (weighed weight d ys) (omega arith)

  pub weighed_covers_children : CoversChildren form (costs_by nat_cmp (weighed weight))
  weighed_covers_children n xs fits x c =
      let d = bare_node (form n) in
      let r = each-below xs x c in
      let a : x ≤ sum xs = r.0 in
      let b : x ≤ dearest xs = r.1 in
      ordered x (weighed weight d xs) (omega arith)
