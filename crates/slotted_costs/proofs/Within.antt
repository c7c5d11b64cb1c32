-- Numbers of 64 bits are at most the largest one.
use Rattle.std.proofs.Common.{◌≡◌, ◌≤◌, ℕ, suc, List, [], ◌∷◌, get_or, subst, sym, inl, inr, arith, Fits, w64}
use Rattle.std.specs.Prelude.{◌+◌, Contains, min, max}
use Rattle.slotted_lists.proofs.Contained.{contains_head, contains_tail, contains_cases, Contains-nil}
use Rattle.slotted_theory.specs.Nameless.{DTerm}
use Rattle.slotted_model.specs.Cost.{dearest}
use Rattle.slotted_costs.specs.Size.{largest}

within : (x : ℕ) → Fits w64 x → x ≤ largest
within x h = omega arith

pub each-within : (xs : List ℕ) → ((i : ℕ) → Fits w64 (get_or xs i 0)) → (x : ℕ) → Contains xs x → x ≤ largest
each-within [] h x c = absurd (Contains-nil x c)
each-within (y ∷ ys) h x c = elim (contains_cases y ys x c) [
  | inl e ↦ subst (λ z. z ≤ largest) (sym e) (within y (h 0))
  | inr d ↦ each-within ys (λ i. h (suc i)) x d
]

pub dearest-within : (xs : List ℕ) → ((x : ℕ) → Contains xs x → x ≤ largest) → dearest xs ≤ largest
dearest-within [] h = omega arith
dearest-within (y ∷ ys) h =
    let a : y ≤ largest = h y (contains_head y ys) in
    let b : dearest ys ≤ largest = dearest-within ys (λ x c. h x (contains_tail y ys x c)) in
    omega arith

-- where no child is above the largest number a weighed cost is the sum, or the largest number
pub weighed-is : (w : DTerm → ℕ) (d : DTerm) (weight total most : ℕ) → w d ≡ weight → most ≤ largest → min (weight + total) largest ≡ min (w d + total) (max largest most)
weighed-is w d weight total most e le = omega arith
