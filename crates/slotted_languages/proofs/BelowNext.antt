-- One more number, and one more place.
use Rattle.std.proofs.Common.{◌≡◌, ℕ, zero, suc, ◌+◌, ◌<◌, List, [], ◌∷◌, ◌++◌, length, Option, Some, None, inl, inr, refl, subst, add-one, arith}
use Rattle.std.specs.Prelude.{Bool, true, false, is_some, slice_get, slice_index}
use Rattle.std.proofs.lemmas.Bool.{cases_lt}
use Rattle.std.proofs.lemmas.Grind.{common_steps}
use Rattle.slotted_nodes.specs.Form.{counted_end}
use Rattle.slotted_languages.specs.Occurrences.{names_where}

-- what holds below a number and of it holds below the next
pub below_next : (P : ℕ → Type 0) (n : ℕ) → ((i : ℕ) → i < n → P i) → P n → (i : ℕ) → i < n + 1 → P i
below_next P n before here i lt = elim (cases_lt i n) [
  | inl less ↦ before i less
  | inr more ↦ let same : n ≡ i = omega (arith, lt, more) in subst P same here
]

-- what stands at a place
pub stands_there : (xs : List ℕ) (i : ℕ) → i < length xs → slice_get xs i ≡ Some (slice_index xs i)
stands_there [] i lt = absurd (omega (arith, lt))
stands_there (x ∷ xs) zero lt = refl
stands_there (x ∷ xs) (suc i) lt = stands_there xs i (omega (arith, lt))

-- the end of a scope is counted or not, but there
pub counted_some : (o : Option ℕ) → is_some (counted_end o) ≡ is_some o
counted_some None = refl
counted_some (Some e) = refl

-- the names at the places so far where a test holds
pub where_there : (test : ℕ → Bool) (xs : List ℕ) (n : ℕ) → test n ≡ true → names_where test xs (n + 1) ≡ names_where test xs n ++ slice_index xs n ∷ []
where_there test xs n e = rw (add-one n) (grind (arith, common_steps))

pub where_other : (test : ℕ → Bool) (xs : List ℕ) (n : ℕ) → test n ≡ false → names_where test xs (n + 1) ≡ names_where test xs n
where_other test xs n e = rw (add-one n) (grind (arith, common_steps))
