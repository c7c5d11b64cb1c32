-- Counts, one class after another.
use Rattle.std.proofs.Common.{◌≡◌, ◌+◌, ◌∙◌, ℕ, List, [], ◌∷◌, ◌++◌, true, length, ap, sym, inl, inr, arith}
use Rattle.std.specs.Prelude.{Bool, min, ◌^◌, ◌-◌}
use Rattle.std.specs.List.{filter, range_with_len, sum_by}
use Rattle.std.proofs.Math.Nat.{min-eq_left, min-eq_right}
use Rattle.std.proofs.lemmas.Bool.{cases_lt}
use Rattle.std.proofs.lemmas.List.{length-append}
use Rattle.std.proofs.lemmas.List.Sums.{sum_by-cons}
use Rattle.slotted_nodes.specs.Form.{counted}
use Rattle.slotted_lookup.proofs.ReportLists.{next-passes}

-- what is summed, and one number more
sum-then : (f : ℕ → ℕ) (xs : List ℕ) (x : ℕ) → sum_by f (xs ++ x ∷ []) ≡ sum_by f xs + f x
sum-then f [] x = omega (arith, sum_by-cons f x [])
sum-then f (y ∷ ys) x = omega (arith, sum_by-cons f y (ys ++ x ∷ []), sum_by-cons f y ys, sum-then f ys x)

-- one number more passes
pub counts-one : (test : ℕ → Bool) (n : ℕ) → test n ≡ true → length (filter test (range_with_len 0 n)) + 1 ≡ length (filter test (range_with_len 0 (n + 1)))
counts-one test n e = omega (arith, length-append (filter test (range_with_len 0 n)) (n ∷ []), ap (λ (xs : List ℕ). length xs) (next-passes test n e))

pub sums-one : (test : ℕ → Bool) (f : ℕ → ℕ) (n : ℕ) → test n ≡ true → sum_by f (filter test (range_with_len 0 n)) + f n ≡ sum_by f (filter test (range_with_len 0 (n + 1)))
sums-one test f n e = sym (sum-then f (filter test (range_with_len 0 n)) n) ∙ ap (sum_by f) (next-passes test n e)

-- a sum that ends, and more
min-more : (m a b : ℕ) → min (min a m + b) m ≡ min (a + b) m
min-more m a b = elim (cases_lt m a) [
  | inl l ↦
      let here : min a m ≡ m = min-eq_right (omega (arith, l)) in
      ap (λ n. min (n + b) m) here ∙ (min-eq_right (omega arith) ∙ sym (min-eq_right (omega (arith, l))))
  | inr l ↦ ap (λ n. min (n + b) m) (min-eq_left l)
]

pub counts-more : (x y a b : ℕ) → x ≡ counted a → y ≡ b → counted (x + y) ≡ counted (a + b)
counts-more x y a b e f = (λ j. counted (e j + f j)) ∙ min-more (2 ^ 64 - 1) a b
