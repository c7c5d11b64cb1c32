-- Which slots a table knows in addition.
use Rattle.std.proofs.Common.{◌≡◌, ℕ, ◌+◌, List, [], ◌∷◌, ◌++◌, sym, ◌∙◌, ap, refl, subst, inl, inr, arith}
use Rattle.std.specs.Prelude.{Bool, true, false, ◌⊎◌}
use Rattle.std.proofs.lemmas.Bool.{false≢true}
use Rattle.std.proofs.lemmas.Bool.Decides.{nat_tests}
use Rattle.slotted_lists.proofs.Maps.{is_among-left, is_among-right, keys-push}
use Rattle.slotted_slots.specs.Maps.{IsInEither, is_among, values, keys}
use Rattle.slotted_slots.specs.Table.{Table, Takes, fresh_slot, is_known}
use Rattle.slotted_slots.proofs.FreshLaws.{values-push}
use Rattle.slotted_slots.proofs.MapLaws.{is_among-first}

-- one more fresh slot
pub only_fresh : (t u : Table) (z : ℕ) → u.fresh ≡ t.fresh + 1 → u.names ≡ t.names → is_known u z ≡ true → is_known t z ≡ false → z ≡ fresh_slot t.fresh
unfolding is_known
only_fresh t u z more same known unknown = grind (arith, nat_tests)

told_bool : (b : Bool) → (b ≡ true) ⊎ (b ≡ false)
told_bool true = inl refl
told_bool false = inr refl

-- a table takes nothing from itself
pub takes_none : (t : Table) (P : ℕ → Type 0) → Takes t t P
takes_none t P z known unknown = absurd (false≢true (sym unknown ∙ known))

-- a table takes one more fresh slot
pub takes_fresh : (t u v : Table) (P : ℕ → Type 0) (s : ℕ) → s ≡ fresh_slot u.fresh → v.fresh ≡ u.fresh + 1 → v.names ≡ u.names → Takes t u P → P s → Takes t v P
takes_fresh t u v P s e more same h p z known unknown = elim (told_bool (is_known u z)) [
  | inl k ↦ h z k unknown
  | inr k ↦ subst P (e ∙ sym (only_fresh u v z more same known k)) p
]

-- two steps, where what the first took is among what both took
pub takes_then : (t u v : Table) (P Q R : ℕ → Type 0) → Takes t u P → Takes u v Q → ((z : ℕ) → P z → R z) → ((z : ℕ) → Q z → R z) → Takes t v R
takes_then t u v P Q R h k p q z known unknown = elim (told_bool (is_known u z)) [
  | inl a ↦ p z (h z a unknown)
  | inr a ↦ q z (k z known a)
]

pub takes_as : (t u : Table) (P Q : ℕ → Type 0) → Takes t u P → ((z : ℕ) → P z → Q z) → Takes t u Q
takes_as t u P Q h p z known unknown = p z (h z known unknown)

-- a slot that is taken while slots in use are skipped
pub takes_one : (t u v : Table) (used : List ℕ) (s : ℕ) → s ≡ fresh_slot u.fresh → v ≡ record u { fresh = u.fresh + 1 } → Takes t u (λ z. is_among z used ≡ true) → Takes t v (IsInEither (s ∷ []) used)
takes_one t u v used s e moved h =
    takes_fresh t u v (IsInEither (s ∷ []) used) s e (ap (λ (x : Table). x.fresh) moved) (ap (λ (x : Table). x.names) moved)
    (takes_as t u (λ z. is_among z used ≡ true) (IsInEither (s ∷ []) used) h (λ z p. inr p))
    (inl (is_among-first s s [] refl))

-- one of those in use, skipped
pub takes_used : (t u v : Table) (used : List ℕ) (s : ℕ) → s ≡ fresh_slot u.fresh → v ≡ record u { fresh = u.fresh + 1 } → Takes t u (λ z. is_among z used ≡ true) → is_among s used ≡ true → Takes t v (λ z. is_among z used ≡ true)
takes_used t u v used s e moved h there =
    takes_fresh t u v (λ z. is_among z used ≡ true) s e (ap (λ (x : Table). x.fresh) moved) (ap (λ (x : Table). x.names) moved) h there

-- a list grows by what is taken
pub takes_more : (t u v : Table) (used xs : List ℕ) (s : ℕ) → Takes t u (IsInEither xs used) → Takes u v (IsInEither (s ∷ []) used) → Takes t v (IsInEither (xs ++ s ∷ []) used)
takes_more t u v used xs s h k =
    takes_then t u v (IsInEither xs used) (IsInEither (s ∷ []) used) (IsInEither (xs ++ s ∷ []) used) h k
    (λ z p. elim p [
      | inl q ↦ inl (is_among-left xs (s ∷ []) z q)
      | inr q ↦ inr q
    ])
    (λ z p. elim p [
      | inl q ↦ inl (is_among-right xs (s ∷ []) z q)
      | inr q ↦ inr q
    ])

-- and so do the values of a map, and its keys
pub takes_value : (t u v : Table) (used : List ℕ) (m n : List (ℕ × ℕ)) (p : ℕ × ℕ) → n ≡ m ++ p ∷ [] → Takes t u (IsInEither (values m) used) → Takes u v (IsInEither (p.1 ∷ []) used) → Takes t v (IsInEither (values n) used)
takes_value t u v used m n p pushed h k =
    subst (λ xs. Takes t v (IsInEither xs used)) (sym (values-push m p) ∙ ap values (sym pushed)) (takes_more t u v used (values m) p.1 h k)

pub takes_key : (t u v : Table) (used : List ℕ) (m n : List (ℕ × ℕ)) (p : ℕ × ℕ) → n ≡ m ++ p ∷ [] → Takes t u (IsInEither (keys m) used) → Takes u v (IsInEither (p.0 ∷ []) used) → Takes t v (IsInEither (keys n) used)
takes_key t u v used m n p pushed h k =
    subst (λ xs. Takes t v (IsInEither xs used)) (sym (keys-push m p) ∙ ap keys (sym pushed)) (takes_more t u v used (keys m) p.0 h k)
