-- A finite map as a function: it has the map's values at the keys, and is injective if the map is.
use Rattle.std.proofs.Common.{◌≡◌, ◌≢◌, ℕ, ◌+◌, ◌<◌, ◌≤◌, List, [], ◌∷◌, sym, ◌∙◌, ap, arith, inl, inr}
use Rattle.std.specs.Prelude.{Some, cond, unwrap_or}
use Rattle.std.proofs.lemmas.Bool.{eq-eqb, ne_eqb, cases_eq}
use Rattle.slotted_theory.specs.Renaming.{IsInjective}
use Rattle.slotted_theory.specs.FiniteMaps.{value_of, HasValue, IsInjectiveMap, top, filled}

pub filled-value_of : (m : List (ℕ × ℕ)) (k v : ℕ) → value_of m k ≡ Some v → filled m k ≡ v
filled-value_of m k v e = ap (λ o. unwrap_or o (top m + k)) e

-- the same with any number in the place of the top
abbrev pub past : ℕ → List (ℕ × ℕ) → ℕ → ℕ
past t m x = unwrap_or (value_of m x) (t + x)

past-key : (t : ℕ) (p : ℕ × ℕ) (m : List (ℕ × ℕ)) (x : ℕ) → x ≡ p.0 → past t (p ∷ m) x ≡ p.1
past-key t p m x e = ap (λ b. unwrap_or (cond b (Some p.1) (value_of m x)) (t + x)) (eq-eqb x p.0 e)

past-other : (t : ℕ) (p : ℕ × ℕ) (m : List (ℕ × ℕ)) (x : ℕ) → x ≢ p.0 → past t (p ∷ m) x ≡ past t m x
past-other t p m x n = ap (λ b. unwrap_or (cond b (Some p.1) (value_of m x)) (t + x)) (ne_eqb x p.0 n)

pub HasValue-past : (t : ℕ) (m : List (ℕ × ℕ)) (x v : ℕ) → v < t → past t m x ≡ v → HasValue m v
HasValue-past t [] x v h e = absurd (omega arith)
HasValue-past t (p ∷ m) x v h e = elim (cases_eq x p.0) [
  | inl d ↦ inl (sym e ∙ past-key t p m x d)
  | inr n ↦ inr (HasValue-past t m x v h (sym (past-other t p m x n) ∙ e))
]

pub past-injective : (t : ℕ) (m : List (ℕ × ℕ)) → top m ≤ t → IsInjectiveMap m → IsInjective (past t m)
past-injective t [] h i x y e = omega arith
past-injective t (p ∷ m) h i x y e = elim (cases_eq x p.0) [
  | inl d ↦ elim (cases_eq y p.0) [
    | inl f ↦ d ∙ sym f
    | inr n ↦ absurd (i.0 (HasValue-past t m y p.1 (omega arith) (sym (past-other t p m y n) ∙ (sym e ∙ past-key t p m x d))))
  ]
  | inr n ↦ elim (cases_eq y p.0) [
    | inl f ↦ absurd (i.0 (HasValue-past t m x p.1 (omega arith) (sym (past-other t p m x n) ∙ (e ∙ past-key t p m y f))))
    | inr o ↦ past-injective t m (omega arith) i.1 x y (sym (past-other t p m x n) ∙ (e ∙ past-other t p m y o))
  ]
]

pub filled-injective : (m : List (ℕ × ℕ)) → IsInjectiveMap m → IsInjective (filled m)
filled-injective m i = past-injective (top m) m (omega arith) i
