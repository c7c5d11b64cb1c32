-- What a search finds among pairs in key order, and what an edit at that place does.
use Rattle.std.proofs.Common.{◌≡◌, ◌∙◌, ◌++◌, ℕ, zero, suc, ◌<◌, ◌≤◌, ◌-◌, eqb, true, false, List, [], ◌∷◌, length, get_or, Some, None, Result, Ok, Err, IfOk, IfErr, refl, sym, ap, subst, inl, inr, arith, if◌then◌else◌}
use Rattle.std.specs.Prelude.{slice_get}
use Rattle.std.specs.List.{insert, remove}
use Rattle.std.specs.List.Sorted.{IsSearchInRange, IsBinarySearchResult, IsNonDecreasingBy}
use Rattle.std.specs.Ordering.{nat_cmp, ordering_index}
use Rattle.std.proofs.lemmas.Cmp.{ranked}
use Rattle.std.proofs.lemmas.List.Edits.{insert_end}
use Rattle.std.proofs.lemmas.List.Sorted.{IsNonDecreasingBy-from_default}
use Rattle.std.proofs.lemmas.Bool.{cases_eq, cases_order, lt-ltb, le-ltb, eq-eqb, ne_eqb}
use Rattle.std.proofs.lemmas.Bool.Decides.{nat_tests}
use Rattle.slotted_slots.specs.Ascending.{AllAbove, IsAscending}
use Rattle.slotted_slots.proofs.Ascending.{AllAbove-down}
use Rattle.slotted_slots.specs.Maps.{without_key, with_first, composed, doubled, keys, keys-with_value_at, key_at, value_of, with_pair, with_value_at, IsAt, IsGapFor}

-- each key is above what they all are above
pub key_above : (k : ℕ) (m : List (ℕ × ℕ)) (i : ℕ) → AllAbove k (keys m) → i < length m → k < key_at m i
key_above k [] i above lt = absurd (omega arith)
key_above k (p ∷ m) zero above lt = above.0
key_above k (p ∷ m) (suc i) above lt = key_above k m i above.1 (omega arith)

-- keys rise along the list
pub keys_rise : (m : List (ℕ × ℕ)) → IsAscending (keys m) → (i j : ℕ) → i < j → j < length m → key_at m i < key_at m j
keys_rise [] up i j lt in_range = absurd (omega arith)
keys_rise (p ∷ m) up i zero lt in_range = absurd (omega arith)
keys_rise (p ∷ m) up zero (suc j) lt in_range = key_above p.0 m j up.0 (omega arith)
keys_rise (p ∷ m) up (suc i) (suc j) lt in_range = keys_rise m up.1 i j (omega arith) (omega arith)

-- in the tail, a pair is one place lower
IsAt-tail : (p : ℕ × ℕ) (m : List (ℕ × ℕ)) (k i : ℕ) → IsAt (p ∷ m) k (suc i) → IsAt m k i
IsAt-tail p m k i here = record { in_range = omega (arith, here.in_range); has_key = here.has_key }

-- and so is a gap
IsGapFor-tail : (p : ℕ × ℕ) (m : List (ℕ × ℕ)) (k i : ℕ) → IsGapFor (p ∷ m) k (suc i) → IsGapFor m k i
IsGapFor-tail p m k i gap = record {
  in_range = omega (arith, gap.in_range);
  smaller_before = λ j lt. gap.smaller_before (suc j) (omega arith);
  greater_after = λ j le lt. gap.greater_after (suc j) (omega arith) (omega arith);
}

-- a key below all keys is not found
pub value_of-below : (k : ℕ) (m : List (ℕ × ℕ)) → AllAbove k (keys m) → value_of m k ≡ None
value_of-below k [] above = refl
value_of-below k (p ∷ m) above = grind (arith, nat_tests, above.0, value_of-below k m above.1)

-- the value at the place of a key is found
pub value_of-at : (m : List (ℕ × ℕ)) → IsAscending (keys m) → (k i : ℕ) → IsAt m k i → value_of m k ≡ Some (get_or m i (0, 0)).1
value_of-at [] up k i here = absurd (omega (arith, here.in_range))
value_of-at (p ∷ m) up k zero here = grind (arith, nat_tests, here.has_key)
value_of-at (p ∷ m) up k (suc i) here =
    let tail = IsAt-tail p m k i here in
    let above : p.0 < key_at m i = key_above p.0 m i up.0 tail.in_range in
    grind (arith, nat_tests, above, tail.has_key, value_of-at m up.1 k i tail)

-- what stands at a place has its key there
key-got : (m : List (ℕ × ℕ)) (i : ℕ) (p : ℕ × ℕ) → slice_get m i ≡ Some p → key_at m i ≡ p.0
key-got [] i p e = absurd (none-some p e)
  where
    none-some : (p : ℕ × ℕ) → None ≡ Some p → ⊥
    none-some p e = cc
key-got (q ∷ m) zero p e = ap (λ (x : ℕ × ℕ). x.0) (some-same q p e)
  where
    some-same : (q p : ℕ × ℕ) → Some q ≡ Some p → q ≡ p
    some-same q p e = cc
key-got (q ∷ m) (suc i) p e = key-got m i p e

some-last : (p : ℕ × ℕ) (m : List (ℕ × ℕ)) → slice_get (p ∷ m) (length (p ∷ m) - 1) ≡ None → ⊥
some-last p [] e = cc
some-last p (q ∷ m) e =
    let i : length (p ∷ q ∷ m) - 1 ≡ suc (length (q ∷ m) - 1) = omega arith in
    some-last q m (subst (λ n. slice_get (p ∷ q ∷ m) n ≡ None) i e)

-- a key that has a gap is not found
pub value_of-gap : (m : List (ℕ × ℕ)) (k i : ℕ) → IsGapFor m k i → value_of m k ≡ None
value_of-gap [] k i gap = refl
value_of-gap (p ∷ m) k zero gap =
    let later : IsGapFor m k 0 = record { in_range = omega arith; smaller_before = λ j lt. absurd (omega arith); greater_after = λ j le lt. gap.greater_after (suc j) (omega arith) (omega arith) } in
    let first : k < p.0 = gap.greater_after 0 (omega arith) (omega arith) in
    grind (arith, nat_tests, first, value_of-gap m k 0 later)
value_of-gap (p ∷ m) k (suc i) gap =
    let first : p.0 < k = gap.smaller_before 0 (omega arith) in
    grind (arith, nat_tests, first, value_of-gap m k i (IsGapFor-tail p m k i gap))

-- a pair whose key is there takes its place
pub with_pair-at : (m : List (ℕ × ℕ)) → IsAscending (keys m) → (l r i : ℕ) → IsAt m l i → with_pair m l r ≡ with_value_at m i r
with_pair-at [] up l r i here = absurd (omega (arith, here.in_range))
with_pair-at (p ∷ m) up l r zero here = grind (arith, nat_tests, here.has_key)
with_pair-at (p ∷ m) up l r (suc i) here =
    let tail = IsAt-tail p m l i here in
    let above : p.0 < key_at m i = key_above p.0 m i up.0 tail.in_range in
    grind (arith, nat_tests, above, tail.has_key, with_pair-at m up.1 l r i tail)

-- a pair whose key is not there goes into the gap
pub with_pair-gap : (m : List (ℕ × ℕ)) (l r i : ℕ) → IsGapFor m l i → with_pair m l r ≡ insert m i (l, r)
with_pair-gap [] l r zero gap = refl
with_pair-gap [] l r (suc i) gap = absurd (omega (arith, gap.in_range))
with_pair-gap (p ∷ m) l r zero gap =
    let first : l < p.0 = gap.greater_after 0 (omega arith) (omega arith) in
    grind (arith, nat_tests, first)
with_pair-gap (p ∷ m) l r (suc i) gap =
    let first : p.0 < l = gap.smaller_before 0 (omega arith) in
    grind (arith, nat_tests, first, with_pair-gap m l r i (IsGapFor-tail p m l i gap))

-- and at the end
pub with_pair-end : (m : List (ℕ × ℕ)) (l r : ℕ) → IsGapFor m l (length m) → with_pair m l r ≡ m ++ (l, r) ∷ []
with_pair-end m l r gap = with_pair-gap m l r (length m) gap ∙ insert_end m (l, r)

-- the keys stay above what they were above, if the new one is
pub AllAbove-with_pair : (k : ℕ) (m : List (ℕ × ℕ)) (l r : ℕ) → k < l → AllAbove k (keys m) → AllAbove k (keys (with_pair m l r))
AllAbove-with_pair k [] l r lt above = (lt, tt)
AllAbove-with_pair k (p ∷ m) l r lt above = grind (arith, nat_tests, above, AllAbove-with_pair k m l r lt above.1)

-- a binary search by key ends at the key, or at the gap for it
comparisons_rise : (m : List (ℕ × ℕ)) → IsAscending (keys m) → (k : ℕ) → IsNonDecreasingBy (λ pair. ordering_index (nat_cmp pair.0 k)) m
comparisons_rise m up k = IsNonDecreasingBy-from_default (λ pair. ordering_index (nat_cmp pair.0 k)) m (0, 0) (λ i j le in_range.
    let rise : key_at m i ≤ key_at m j = grind (arith, keys_rise m up i j, λ (same : i ≡ j). ap (key_at m) same) in
    grind (arith, nat_tests))

pub searched : (m : List (ℕ × ℕ)) → IsAscending (keys m) → (k : ℕ) (r : Result ℕ ℕ) → IsSearchInRange r (length m) → IsBinarySearchResult (λ pair. nat_cmp pair.0 k) m r → record { found : IfOk r (IsAt m k); absent : IfErr r (IsGapFor m k) }
searched m up k (Ok at) in_range equal = record { found = record { in_range = in_range; has_key = ranked _ k _ (sym (equal (0, 0))) }; absent = tt }
searched m up k (Err at) in_range parted = record {
  found = tt;
  absent = record {
    in_range = in_range;
    smaller_before = λ j lt. ranked _ k _ (sym ((parted (comparisons_rise m up k)).0 j (0, 0) (omega arith) lt));
    greater_after = λ j le lt. ranked _ k _ (sym ((parted (comparisons_rise m up k)).1 j (0, 0) le lt));
  };
}

-- a write at a place keeps the keys, so they rise still
pub IsAscending-with_value_at : (m : List (ℕ × ℕ)) (i v : ℕ) → IsAscending (keys m) → IsAscending (keys (with_value_at m i v))
IsAscending-with_value_at m i v up = subst IsAscending (sym (keys-with_value_at m i v)) up

-- where a pair goes: before the first, over it, or further on
pub with_pair-before : (p : ℕ × ℕ) (m : List (ℕ × ℕ)) (l r : ℕ) → l < p.0 → with_pair (p ∷ m) l r ≡ (l, r) ∷ p ∷ m
with_pair-before p m l r below = rw (lt-ltb l p.0 below) refl

pub with_pair-over : (p : ℕ × ℕ) (m : List (ℕ × ℕ)) (l r : ℕ) → l ≡ p.0 → with_pair (p ∷ m) l r ≡ (l, r) ∷ m
with_pair-over p m l r same = rw (le-ltb l p.0 (omega arith), eq-eqb p.0 l (sym same)) refl

pub with_pair-after : (p : ℕ × ℕ) (m : List (ℕ × ℕ)) (l r : ℕ) → p.0 < l → with_pair (p ∷ m) l r ≡ p ∷ with_pair m l r
with_pair-after p m l r above = rw (le-ltb l p.0 (omega arith), ne_eqb p.0 l (λ e. omega arith)) refl

-- the keys rise after a pair is put in
pub IsAscending-with_pair : (m : List (ℕ × ℕ)) (l r : ℕ) → IsAscending (keys m) → IsAscending (keys (with_pair m l r))
IsAscending-with_pair [] l r up = (tt, tt)
IsAscending-with_pair (p ∷ m) l r up = elim (cases_order l p.0) [
  | inl same ↦ rw (with_pair-over p m l r same) (AllAbove-down l p.0 (keys m) (omega arith) up.0, up.1)
  | inr (inl below) ↦ rw (with_pair-before p m l r below) ((below, AllAbove-down l p.0 (keys m) (omega arith) up.0), up)
  | inr (inr above) ↦ rw (with_pair-after p m l r above) (AllAbove-with_pair p.0 m l r above up.0, IsAscending-with_pair m l r up.1)
]

-- the pair at the place of a key is the one that goes
pub without_key-at : (m : List (ℕ × ℕ)) → IsAscending (keys m) → (k i : ℕ) → IsAt m k i → without_key m k ≡ remove m i
without_key-at [] up k i here = absurd (omega (arith, here.in_range))
without_key-at (p ∷ m) up k zero here = rw (eq-eqb p.0 k here.has_key) refl
without_key-at (p ∷ m) up k (suc i) here =
    let tail = IsAt-tail p m k i here in
    let above : p.0 < key_at m i = key_above p.0 m i up.0 tail.in_range in
    rw (ne_eqb p.0 k (λ e. omega (arith, above, tail.has_key))) (ap (λ r. p ∷ r) (without_key-at m up.1 k i tail))

-- where the key has a gap none goes
pub without_key-gap : (m : List (ℕ × ℕ)) (k i : ℕ) → IsGapFor m k i → without_key m k ≡ m
without_key-gap [] k i gap = refl
without_key-gap (p ∷ m) k zero gap =
    let first : k < p.0 = gap.greater_after 0 (omega arith) (omega arith) in
    let later : IsGapFor m k 0 = record { in_range = omega arith; smaller_before = λ j lt. absurd (omega arith); greater_after = λ j le lt. gap.greater_after (suc j) (omega arith) (omega arith) } in
    rw (ne_eqb p.0 k (λ e. omega (arith, first))) (ap (λ r. p ∷ r) (without_key-gap m k 0 later))
without_key-gap (p ∷ m) k (suc i) gap =
    let first : p.0 < k = gap.smaller_before 0 (omega arith) in
    rw (ne_eqb p.0 k (λ e. omega (arith, first))) (ap (λ r. p ∷ r) (without_key-gap m k i (IsGapFor-tail p m k i gap)))

-- the keys rise after a key goes
AllAbove-without_key : (a : ℕ) (m : List (ℕ × ℕ)) (k : ℕ) → AllAbove a (keys m) → AllAbove a (keys (without_key m k))
AllAbove-without_key a [] k above = tt
AllAbove-without_key a (p ∷ m) k above = elim (eqb p.0 k) as (λ b. AllAbove a (keys (if b then m else p ∷ without_key m k))) [
  | true ↦ above.1
  | false ↦ (above.0, AllAbove-without_key a m k above.1)
]

pub IsAscending-without_key : (m : List (ℕ × ℕ)) (k : ℕ) → IsAscending (keys m) → IsAscending (keys (without_key m k))
IsAscending-without_key [] k up = tt
IsAscending-without_key (p ∷ m) k up = elim (eqb p.0 k) as (λ b. IsAscending (keys (if b then m else p ∷ without_key m k))) [
  | true ↦ up.1
  | false ↦ (AllAbove-without_key p.0 m k up.0, IsAscending-without_key m k up.1)
]

-- the keys rise in what two maps compose to
AllAbove-composed : (a : ℕ) (m n : List (ℕ × ℕ)) → AllAbove a (keys m) → AllAbove a (keys (composed m n))
AllAbove-composed a [] n above = tt
AllAbove-composed a (p ∷ m) n above = elim (value_of n p.1) as (λ v. AllAbove a (keys (with_first p.0 v (composed m n)))) [
  | Some v ↦ (above.0, AllAbove-composed a m n above.1)
  | None ↦ AllAbove-composed a m n above.1
]

pub IsAscending-composed : (m n : List (ℕ × ℕ)) → IsAscending (keys m) → IsAscending (keys (composed m n))
IsAscending-composed [] n up = tt
IsAscending-composed (p ∷ m) n up = elim (value_of n p.1) as (λ v. IsAscending (keys (with_first p.0 v (composed m n)))) [
  | Some v ↦ (AllAbove-composed p.0 m n up.0, IsAscending-composed m n up.1)
  | None ↦ IsAscending-composed m n up.1
]

-- the keys of the identity are the set
pub keys-doubled : (xs : List ℕ) → keys (doubled xs) ≡ xs
keys-doubled [] = refl
keys-doubled (x ∷ xs) = ap (λ r. x ∷ r) (keys-doubled xs)

-- a key above the last one has its gap at the end
pub gap-past : (m : List (ℕ × ℕ)) (k : ℕ) (p : ℕ × ℕ) → slice_get m (length m - 1) ≡ Some p → p.0 < k → IsAscending (keys m) → IsGapFor m k (length m)
gap-past m k p last below up = record {
  in_range = omega arith;
  smaller_before = λ j lt. elim (cases_eq j (length m - 1)) [
    | inl e ↦ subst (λ x. x < k) (sym (key-got m j p (subst (λ i. slice_get m i ≡ Some p) (sym e) last))) below
    | inr n ↦
        let rise = keys_rise m up j (length m - 1) (omega (arith, lt, n)) (omega (arith, lt)) in
        let key : key_at m (length m - 1) ≡ p.0 = key-got m (length m - 1) p last in
        omega (arith, rise, key, below)
  ];
  greater_after = λ j le lt. absurd (omega (arith, le, lt));
}

pub gap-empty : (m : List (ℕ × ℕ)) (k : ℕ) → slice_get m (length m - 1) ≡ None → IsGapFor m k (length m)
gap-empty [] k none = record { in_range = omega arith; smaller_before = λ j lt. absurd (omega (arith, lt)); greater_after = λ j le lt. absurd (omega (arith, le, lt)) }
gap-empty (p ∷ m) k none = absurd (some-last p m none)
