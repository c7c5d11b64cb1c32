-- A finite map as a function, by a walk along its pairs.
use Rattle.std.specs.Prelude.{◌≡◌, ℕ, ◌+◌, List, [], ◌∷◌, Bool, true, false, Some, cond, nat_eq, unwrap_or, refl}
use Rattle.slotted_theory.specs.FiniteMaps.{value_of, top, filled}

-- the value of the first pair with the key x, and what it lacks goes past t
abbrev pub filled_from : ℕ → List (ℕ × ℕ) → ℕ → ℕ
filled_from t [] x = t + x
filled_from t (p ∷ m) x = cond (nat_eq x p.0) p.1 (filled_from t m x)

walked : (t : ℕ) (m : List (ℕ × ℕ)) (x : ℕ) → unwrap_or (value_of m x) (t + x) ≡ filled_from t m x
walked t [] x = refl
walked t (p ∷ m) x = first (nat_eq x p.0) (walked t m x)
  where
    first : (b : Bool) → unwrap_or (value_of m x) (t + x) ≡ filled_from t m x → unwrap_or (cond b (Some p.1) (value_of m x)) (t + x) ≡ cond b p.1 (filled_from t m x)
    first true h = refl
    first false h = h

pub filled-walked : (m : List (ℕ × ℕ)) → filled m ≡ filled_from (top m) m
filled-walked m = λ i x. walked (top m) m x i
