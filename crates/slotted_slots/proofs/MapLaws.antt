-- Slot maps as plain finite maps: what each operation has at each key.
use Rattle.std.proofs.Common.{◌≡◌, ℕ, ◌⊎◌, Bool, true, false, not, eqb, List, [], ◌∷◌, fold, Option, Some, None, IsSome, refl, sym, ap, subst, inl, inr, arith, ◌∙◌, if◌then◌else◌}
use Rattle.std.specs.Option.{option_and_then}
use Rattle.std.proofs.lemmas.Bool.{cases_order, cases_eq, cases_Bool, eq-eqb, ne_eqb, false≢true, true≢false, and_parts, and_from, not-true}
use Rattle.std.proofs.lemmas.List.Elements.{All-head, All-tail}
use Rattle.slotted_slots.specs.Ascending.{AllAbove, IsAscending}
use Rattle.slotted_slots.specs.Maps.{keys, values, value_of, with_pair, without_key, with_first, composed, doubled, turned, map_of, is_among, all_differ, KnowsAll, IsInverse}
use Rattle.slotted_slots.proofs.Ascending.{AllAbove-down}
use Rattle.slotted_slots.proofs.MapLemmas.{value_of-below, with_pair-before, with_pair-over, with_pair-after}

-- the key was just put in, or is as it was
pub value_of-with_pair : (m : List (ℕ × ℕ)) (l r k : ℕ) → value_of (with_pair m l r) k ≡ (if eqb l k then Some r else value_of m k)
value_of-with_pair [] l r k = refl
value_of-with_pair (p ∷ m) l r k = elim (cases_order l p.0) [
  | inl same ↦ rw (with_pair-over p m l r same) (elim (cases_eq l k) [
    | inl here ↦ rw (eq-eqb l k here) refl
    | inr other ↦ rw (ne_eqb l k other, ne_eqb p.0 k (λ e. other (same ∙ e))) refl
  ])
  | inr (inl below) ↦ rw (with_pair-before p m l r below) refl
  | inr (inr above) ↦ rw (with_pair-after p m l r above, value_of-with_pair m l r k) (elim (cases_eq p.0 k) [
    | inl here ↦ rw (eq-eqb p.0 k here, ne_eqb l k (λ e. omega arith)) refl
    | inr other ↦ rw (ne_eqb p.0 k other) refl
  ])
]

-- the key was taken out, or is as it was
pub value_of-without_key : (m : List (ℕ × ℕ)) → IsAscending (keys m) → (l k : ℕ) → value_of (without_key m l) k ≡ (if eqb l k then None else value_of m k)
value_of-without_key [] up l k = none_both (eqb l k)
  where
    none_both : (b : Bool) → value_of [] k ≡ (if b then None else value_of [] k)
    none_both true = refl
    none_both false = refl
value_of-without_key (p ∷ m) up l k = elim (cases_eq p.0 l) [
  | inl here ↦ rw (eq-eqb p.0 l here) (elim (cases_eq l k) [
    | inl same ↦ rw (eq-eqb l k same) (value_of-below k m (AllAbove-down k p.0 (keys m) (omega arith) up.0))
    | inr other ↦ rw (ne_eqb l k other, ne_eqb p.0 k (λ e. other (sym here ∙ e))) refl
  ])
  | inr away ↦ rw (ne_eqb p.0 l away, value_of-without_key m up.1 l k) (elim (cases_eq p.0 k) [
    | inl same ↦ rw (eq-eqb p.0 k same, ne_eqb l k (λ e. away (same ∙ sym e))) refl
    | inr other ↦ rw (ne_eqb p.0 k other) refl
  ])
]

-- what is above all keys of a map is above all of what it composes to
value_of-composed_below : (k : ℕ) (m n : List (ℕ × ℕ)) → AllAbove k (keys m) → value_of (composed m n) k ≡ None
value_of-composed_below k [] n above = refl
value_of-composed_below k (p ∷ m) n above = elim (value_of n p.1) as (λ v. value_of (with_first p.0 v (composed m n)) k ≡ None) [
  | Some v ↦ rw (ne_eqb p.0 k (λ e. omega (arith, above.0))) (value_of-composed_below k m n above.1)
  | None ↦ value_of-composed_below k m n above.1
]

-- first the one map, then the other
pub value_of-composed : (m n : List (ℕ × ℕ)) → IsAscending (keys m) → (k : ℕ) → value_of (composed m n) k ≡ option_and_then (value_of n) (value_of m k)
value_of-composed [] n up k = refl
value_of-composed (p ∷ m) n up k = elim (cases_eq p.0 k) [
  | inl here ↦ rw (eq-eqb p.0 k here) (at_key (value_of n p.1) here)
  | inr other ↦ rw (ne_eqb p.0 k other) (past (value_of n p.1) other ∙ value_of-composed m n up.1 k)
]
  where
    at_key : (v : Option ℕ) → p.0 ≡ k → value_of (with_first p.0 v (composed m n)) k ≡ v
    at_key (Some v) here = rw (eq-eqb p.0 k here) refl
    at_key None here = value_of-composed_below k m n (AllAbove-down k p.0 (keys m) (omega arith) up.0)

    past : (v : Option ℕ) → (p.0 ≡ k → ⊥) → value_of (with_first p.0 v (composed m n)) k ≡ value_of (composed m n) k
    past (Some v) other = rw (ne_eqb p.0 k other) refl
    past None other = refl

-- where the other knows all values, all keys stay
pub keys-composed : (m n : List (ℕ × ℕ)) → KnowsAll n (values m) → keys (composed m n) ≡ keys m
keys-composed [] n known = refl
keys-composed (p ∷ m) n known =
    by (value_of n p.1) (All-head (λ x. IsSome (value_of n x)) p.1 (values m) known) (keys-composed m n (All-tail (λ x. IsSome (value_of n x)) p.1 (values m) known))
  where
    by : (v : Option ℕ) → IsSome v → keys (composed m n) ≡ keys m → keys (with_first p.0 v (composed m n)) ≡ p.0 ∷ keys m
    by (Some v) some rest = ap (λ ks. p.0 ∷ ks) rest
    by None some rest = absurd (false≢true some)

-- each of the numbers has itself
pub value_of-doubled : (xs : List ℕ) (k : ℕ) → value_of (doubled xs) k ≡ (if is_among k xs then Some k else None)
value_of-doubled [] k = refl
value_of-doubled (x ∷ xs) k = elim (cases_eq x k) [
  | inl here ↦ rw (eq-eqb x k here) (ap Some here)
  | inr other ↦ rw (ne_eqb x k other) (value_of-doubled xs k)
]

-- a number that is among others is the first of them or among the rest
pub is_among-cons : (v x : ℕ) (xs : List ℕ) → is_among v (x ∷ xs) ≡ true → (x ≡ v) ⊎ (is_among v xs ≡ true)
is_among-cons v x xs there = elim (cases_eq x v) [
  | inl here ↦ inl here
  | inr other ↦ inr (rw (ne_eqb x v other) at there)
]

pub is_among-first : (v x : ℕ) (xs : List ℕ) → x ≡ v → is_among v (x ∷ xs) ≡ true
is_among-first v x xs e = rw (eq-eqb x v e) refl

pub is_among-more : (v x : ℕ) (xs : List ℕ) → is_among v xs ≡ true → is_among v (x ∷ xs) ≡ true
is_among-more v x xs there = elim (cases_eq x v) [
  | inl here ↦ rw (eq-eqb x v here) refl
  | inr other ↦ rw (ne_eqb x v other) there
]

-- where no key stands twice, a map made of pairs has at each key what its pair has, and else what was there
pub value_of-fold : (acc ps : List (ℕ × ℕ)) → all_differ (keys ps) ≡ true → (k : ℕ) → value_of (fold (λ m p. with_pair m p.0 p.1) acc ps) k ≡ (if is_among k (keys ps) then value_of ps k else value_of acc k)
value_of-fold acc [] differ k = refl
value_of-fold acc (p ∷ ps) differ k =
    let parts = and_parts (not (is_among p.0 (keys ps))) (all_differ (keys ps)) differ in
    let rest = value_of-fold (with_pair acc p.0 p.1) ps parts.1 k in
    elim (cases_eq p.0 k) [
      | inl here ↦
          let gone : is_among k (keys ps) ≡ false = subst (λ x. is_among x (keys ps) ≡ false) here (not-true _ parts.0) in
          rw (eq-eqb p.0 k here) (rest ∙ rw (gone, value_of-with_pair acc p.0 p.1 k, eq-eqb p.0 k here) refl)
      | inr other ↦
          rw (ne_eqb p.0 k other) (rest ∙ rw (value_of-with_pair acc p.0 p.1 k, ne_eqb p.0 k other) refl)
    ]

-- a key that no pair has is not found
pub value_of-not_among : (ps : List (ℕ × ℕ)) (k : ℕ) → is_among k (keys ps) ≡ false → value_of ps k ≡ None
value_of-not_among [] k missing = refl
value_of-not_among (p ∷ ps) k missing = elim (cases_eq p.0 k) [
  | inl here ↦ absurd (true≢false (sym (is_among-first k p.0 (keys ps) here) ∙ missing))
  | inr other ↦ rw (ne_eqb p.0 k other) (value_of-not_among ps k (rw (ne_eqb p.0 k other) at missing))
]

-- so it is those pairs as a map
pub value_of-map_of : (ps : List (ℕ × ℕ)) → all_differ (keys ps) ≡ true → (k : ℕ) → value_of (map_of ps) k ≡ value_of ps k
value_of-map_of ps differ k = elim (cases_Bool (is_among k (keys ps))) [
  | inl there ↦ value_of-fold [] ps differ k ∙ rw there refl
  | inr missing ↦ value_of-fold [] ps differ k ∙ rw missing (sym (value_of-not_among ps k missing))
]

-- the keys of the pairs turned round are the values
pub keys-turned : (m : List (ℕ × ℕ)) → keys (turned m) ≡ values m
keys-turned [] = refl
keys-turned (p ∷ m) = ap (λ r. p.1 ∷ r) (keys-turned m)

-- what a map has at a key is among its values
pub is_among-value_of : (m : List (ℕ × ℕ)) (k v : ℕ) → value_of m k ≡ Some v → is_among v (values m) ≡ true
is_among-value_of [] k v e = absurd (cc)
is_among-value_of (p ∷ m) k v e = elim (cases_eq p.0 k) [
  | inl here ↦
      let same : Some p.1 ≡ Some v = rw (eq-eqb p.0 k here) at e in
      is_among-first v p.1 (values m) (cc)
  | inr other ↦ is_among-more v p.1 (values m) (is_among-value_of m k v (rw (ne_eqb p.0 k other) at e))
]

-- and the key is among its keys
pub is_among-key : (m : List (ℕ × ℕ)) (k v : ℕ) → value_of m k ≡ Some v → is_among k (keys m) ≡ true
is_among-key [] k v e = absurd (cc)
is_among-key (p ∷ m) k v e = elim (cases_eq p.0 k) [
  | inl here ↦ is_among-first k p.0 (keys m) here
  | inr other ↦ is_among-more k p.0 (keys m) (is_among-key m k v (rw (ne_eqb p.0 k other) at e))
]

-- where no first part and no second part stands twice, the pairs turned round find what the pairs hold
turned-finds : (m : List (ℕ × ℕ)) → all_differ (keys m) ≡ true → all_differ (values m) ≡ true → (k v : ℕ) → value_of m k ≡ Some v → value_of (turned m) v ≡ Some k
turned-finds [] ks vs k v e = absurd (cc)
turned-finds (p ∷ m) ks vs k v e =
    let key_parts = and_parts (not (is_among p.0 (keys m))) (all_differ (keys m)) ks in
    let value_parts = and_parts (not (is_among p.1 (values m))) (all_differ (values m)) vs in
    elim (cases_eq p.0 k) [
      | inl here ↦
          let same : Some p.1 ≡ Some v = rw (eq-eqb p.0 k here) at e in
          let at_value : p.1 ≡ v = cc in
          rw (eq-eqb p.1 v at_value) (ap Some here)
      | inr other ↦
          let found : value_of m k ≡ Some v = rw (ne_eqb p.0 k other) at e in
          let apart : p.1 ≡ v → ⊥ = λ same. true≢false (sym (is_among-value_of m k v found) ∙ subst (λ x. is_among x (values m) ≡ false) same (not-true _ value_parts.0)) in
          rw (ne_eqb p.1 v apart) (turned-finds m key_parts.1 value_parts.1 k v found)
    ]

turned-turned : (m : List (ℕ × ℕ)) → turned (turned m) ≡ m
turned-turned [] = refl
turned-turned (p ∷ m) = ap (λ r. p ∷ r) (turned-turned m)

values-turned : (m : List (ℕ × ℕ)) → values (turned m) ≡ keys m
values-turned [] = refl
values-turned (p ∷ m) = ap (λ r. p.0 ∷ r) (values-turned m)

-- numbers that rise differ
is_among-above : (k : ℕ) (xs : List ℕ) → AllAbove k xs → is_among k xs ≡ false
is_among-above k [] above = refl
is_among-above k (x ∷ xs) above = rw (ne_eqb x k (λ e. omega (arith, above.0))) (is_among-above k xs above.1)

pub all_differ-ascending : (xs : List ℕ) → IsAscending xs → all_differ xs ≡ true
all_differ-ascending [] up = refl
all_differ-ascending (x ∷ xs) up = and_from _ _ (ap not (is_among-above x xs up.0)) (all_differ-ascending xs up.1)

-- the map of the pairs turned round is the inverse of a map in which no value stands twice
pub IsInverse-turned : (m : List (ℕ × ℕ)) → IsAscending (keys m) → all_differ (values m) ≡ true → IsInverse m (map_of (turned m))
IsInverse-turned m up differ k v =
    let ks = all_differ-ascending (keys m) up in
    let whole = value_of-map_of (turned m) (subst (λ xs. all_differ xs ≡ true) (sym (keys-turned m)) differ) v in (
      λ e. subst (λ n. value_of n k ≡ Some v) (turned-turned m) (turned-finds (turned m) (subst (λ xs. all_differ xs ≡ true) (sym (keys-turned m)) differ) (subst (λ xs. all_differ xs ≡ true) (sym (values-turned m)) ks) v k (sym whole ∙ e)),
      λ e. whole ∙ turned-finds m ks differ k v e,
    )
