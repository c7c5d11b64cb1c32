-- A pair behind a map.
use Rattle.std.proofs.Common.{◌≡◌, ◌≢◌, ℕ, List, [], ◌∷◌, ◌++◌, sym, ◌∙◌, ap, inl, inr, true≢false}
use Rattle.std.specs.Prelude.{is_some, ◌⊎◌}
use Rattle.std.proofs.lemmas.Bool.{cases_eq}
use Rattle.slotted_lists.proofs.Maps.{value_of-first, value_of-rest}
use Rattle.slotted_theory.specs.FiniteMaps.{HasValue, IsInjectiveMap}
use Rattle.slotted_check.specs.Renamings.{Extends}

pub value_of-kept : (m : List (ℕ × ℕ)) (q : ℕ × ℕ) → Extends m (m ++ q ∷ [])
value_of-kept [] q x v e = absurd (true≢false (sym (ap is_some e)))
value_of-kept (p ∷ m) q x v e = elim (cases_eq x p.0) [
  | inl d ↦ value_of-first p (m ++ q ∷ []) x d ∙ (sym (value_of-first p m x d) ∙ e)
  | inr n ↦ value_of-rest p (m ++ q ∷ []) x n ∙ value_of-kept m q x v (sym (value_of-rest p m x n) ∙ e)
]

HasValue-split : (m : List (ℕ × ℕ)) (q : ℕ × ℕ) (v : ℕ) → HasValue (m ++ q ∷ []) v → HasValue m v ⊎ (v ≡ q.1)
HasValue-split [] q v (inl e) = inr e
HasValue-split [] q v (inr h) = absurd h
HasValue-split (p ∷ m) q v (inl e) = inl (inl e)
HasValue-split (p ∷ m) q v (inr h) = elim (HasValue-split m q v h) [ inl a ↦ inl (inr a) | inr e ↦ inr e ]

pub IsInjectiveMap-added : (m : List (ℕ × ℕ)) (q : ℕ × ℕ) → ¬ HasValue m q.1 → IsInjectiveMap m → IsInjectiveMap (m ++ q ∷ [])
IsInjectiveMap-added [] q n i = (λ h. h, tt)
IsInjectiveMap-added (p ∷ m) q n i = (
  λ h. elim (HasValue-split m q p.1 h) [ inl a ↦ i.0 a | inr e ↦ n (inl (sym e)) ],
  IsInjectiveMap-added m q (λ h. n (inr h)) i.1,
)
