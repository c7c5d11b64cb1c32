-- What a search finds in an ascending list, and what an insertion at that place does.
use Rattle.std.proofs.Common.{◌≡◌, ℕ, zero, suc, ◌+◌, true, false, ◌||◌, List, [], ◌∷◌, length, get_or, Result, Ok, Err, is_ok, IfOk, IfErr, refl, sym, ap, arith, ◌∙◌}
use Rattle.std.specs.declared.cmp.Ordering.{Ordering}
use Rattle.std.specs.declared.cmp.Ordering.TheVariants.{Less, Equal, Greater}
use Rattle.std.specs.Cmp.{IsTotalOrder}
use Rattle.std.specs.List.{insert, AllByRecursion}
use Rattle.std.specs.List.Sorted.{IsSearchInRange, IsBinarySearchResult, IsStrictlySortedBy, IsSorted}
use Rattle.std.specs.Ordering.{eq_by_cmp, is_lt, match_ordering, ordering_reverse}
use Rattle.std.proofs.lemmas.List.Sorted.{searchable_from_sorted}
use Rattle.std.proofs.lemmas.Map.Keys.{Less-from_sorted, sorted_tail}
use Rattle.slotted_slots.specs.Sets.{has, insert_key, IsPlaceOf, IsGap}

module _ {T : Type 0} {cmp : T → T → Ordering} (o : IsTotalOrder cmp) where
  -- a list that rises strictly rises
  IsSorted-from_strict : (xs : List T) → IsStrictlySortedBy cmp xs → IsSorted cmp xs
  IsSorted-from_strict xs up k d low high =
      let rises = Less-from_sorted cmp xs k (k + 1) d up (omega arith) high in
      ap is_lt (o.antisymm _ _ ∙ ap ordering_reverse rises)

  -- a binary search ends at an equal element, or at the gap
  pub set_searched : (xs : List T) → IsStrictlySortedBy cmp xs → (t : T) (r : Result ℕ ℕ) → IsSearchInRange r (length xs) → IsBinarySearchResult (λ y. cmp y t) xs r → record { found : IfOk r (IsPlaceOf cmp xs t); absent : IfErr r (IsGap cmp xs t) }
  set_searched xs up t (Ok at) in_range equal = record { found = record { in_range = in_range; equal = equal }; absent = tt }
  set_searched xs up t (Err at) in_range parted =
      let parts = parted (searchable_from_sorted o (λ y. y) xs t (IsSorted-from_strict xs up)) in
      record {
        found = tt;
        absent = record {
          in_range = in_range;
          smaller_before = λ j d lt. parts.0 j d (omega arith) lt;
          greater_after = λ j d le lt. parts.1 j d le lt;
        };
      }

  -- the other way round
  turned : (x y : T) (r : Ordering) → cmp x y ≡ r → cmp y x ≡ ordering_reverse r
  turned x y r e = o.antisymm y x ∙ ap ordering_reverse e

  -- an equal element is among the list
  pub has-at : (xs : List T) (t : T) (i : ℕ) → IsPlaceOf cmp xs t i → has cmp xs t ≡ true
  has-at [] t i here = absurd (omega (arith, here.in_range))
  has-at (x ∷ xs) t zero here = rw (turned x t Equal (here.equal t)) refl
  has-at (x ∷ xs) t (suc i) here =
      let rest : has cmp xs t ≡ true = has-at xs t i (record { in_range = omega (arith, here.in_range); equal = here.equal }) in
      rw rest (elim (eq_by_cmp cmp t x) as (λ b. (b || true) ≡ true) [ true ↦ refl | false ↦ refl ])

  -- none is, where there is a gap
  pub has-gap : (xs : List T) (t : T) (i : ℕ) → IsGap cmp xs t i → has cmp xs t ≡ false
  has-gap [] t i gap = refl
  has-gap (x ∷ xs) t zero gap =
      let first = turned x t Greater (gap.greater_after 0 t (omega arith) (omega arith)) in
      rw first (has-gap xs t 0 (record { in_range = omega arith; smaller_before = λ j d lt. absurd (omega arith); greater_after = λ j d le lt. gap.greater_after (suc j) d (omega arith) (omega arith) }))
  has-gap (x ∷ xs) t (suc i) gap =
      let first = turned x t Less (gap.smaller_before 0 t (omega arith)) in
      rw first (has-gap xs t i (record { in_range = omega (arith, gap.in_range); smaller_before = λ j d lt. gap.smaller_before (suc j) d (omega arith); greater_after = λ j d le lt. gap.greater_after (suc j) d (omega arith) (omega arith) }))

  -- nothing changes where an equal element is there
  pub insert_key-at : (xs : List T) → IsStrictlySortedBy cmp xs → (t : T) (i : ℕ) → IsPlaceOf cmp xs t i → insert_key cmp xs t ≡ xs
  insert_key-at [] up t i here = absurd (omega (arith, here.in_range))
  insert_key-at (x ∷ xs) up t zero here = rw (turned x t Equal (here.equal t)) refl
  insert_key-at (x ∷ xs) up t (suc i) here =
      let rest : IsPlaceOf cmp xs t i = record { in_range = omega (arith, here.in_range); equal = here.equal } in
      let below : cmp x (get_or xs i t) ≡ Less = Less-from_sorted cmp (x ∷ xs) 0 (suc i) t up (omega arith) here.in_range in
      let first : cmp x t ≡ Less = sym (right_of x (get_or xs i t) t (here.equal t)) ∙ below in
      rw (turned x t Less first) (ap (λ ys. x ∷ ys) (insert_key-at xs (sorted_tail cmp x xs up) t i rest))
    where
      right_of : (x y z : T) → cmp y z ≡ Equal → cmp x y ≡ cmp x z
      right_of x y z e = o.antisymm x y ∙ (ap ordering_reverse (o.congr y z x e) ∙ sym (o.antisymm x z))

  -- t goes into the gap
  pub insert_key-gap : (xs : List T) (t : T) (i : ℕ) → IsGap cmp xs t i → insert_key cmp xs t ≡ insert xs i t
  insert_key-gap [] t zero gap = refl
  insert_key-gap [] t (suc i) gap = absurd (omega (arith, gap.in_range))
  insert_key-gap (x ∷ xs) t zero gap = rw (turned x t Greater (gap.greater_after 0 t (omega arith) (omega arith))) refl
  insert_key-gap (x ∷ xs) t (suc i) gap =
      rw (turned x t Less (gap.smaller_before 0 t (omega arith))) (ap (λ ys. x ∷ ys) (insert_key-gap xs t i (record { in_range = omega (arith, gap.in_range); smaller_before = λ j d lt. gap.smaller_before (suc j) d (omega arith); greater_after = λ j d le lt. gap.greater_after (suc j) d (omega arith) (omega arith) })))

  -- what is below all elements and below t stays below all after t is put in
  AllLess-insert_key : (P : T → Type 0) (xs : List T) (t : T) → AllByRecursion P xs → P t → AllByRecursion P (insert_key cmp xs t)
  AllLess-insert_key P [] t all here = (here, tt)
  AllLess-insert_key P (x ∷ xs) t all here = elim (cmp t x) as (λ r. AllByRecursion P (match_ordering r (t ∷ x ∷ xs) (x ∷ xs) (x ∷ insert_key cmp xs t))) [
    | Less ↦ (here, all)
    | Equal ↦ all
    | Greater ↦ (all.0, AllLess-insert_key P xs t all.1 here)
  ]

  -- what follows a smaller element is greater
  AllLess-down : (x y : T) (xs : List T) → cmp x y ≡ Less → AllByRecursion (λ z. cmp y z ≡ Less) xs → AllByRecursion (λ z. cmp x z ≡ Less) xs
  AllLess-down x y [] lt all = tt
  AllLess-down x y (z ∷ xs) lt all = (o.trans x y z lt all.0, AllLess-down x y xs lt all.1)

  -- the list rises after t is put in
  pub IsStrictlySortedBy-insert_key : (xs : List T) (t : T) → IsStrictlySortedBy cmp xs → IsStrictlySortedBy cmp (insert_key cmp xs t)
  unfolding IsStrictlySortedBy
  IsStrictlySortedBy-insert_key [] t up = (tt, tt)
  IsStrictlySortedBy-insert_key (x ∷ xs) t up = by (cmp t x) refl (IsStrictlySortedBy-insert_key xs t up.1)
    where
      by : (r : Ordering) → cmp t x ≡ r → IsStrictlySortedBy cmp (insert_key cmp xs t) → IsStrictlySortedBy cmp (match_ordering r (t ∷ x ∷ xs) (x ∷ xs) (x ∷ insert_key cmp xs t))
      by Less e rest = ((e, AllLess-down t x xs e up.0), up)
      by Equal e rest = up
      by Greater e rest = (AllLess-insert_key (λ z. cmp x z ≡ Less) xs t up.0 (turned t x Greater e), rest)

-- the empty list rises
pub IsStrictlySortedBy-nil : {T : Type 0} (cmp : T → T → Ordering) → IsStrictlySortedBy cmp []
unfolding IsStrictlySortedBy
IsStrictlySortedBy-nil cmp = tt

-- a search finds t exactly where an element compares equal to it
pub has_by_search : {T : Type 0} {cmp : T → T → Ordering} (o : IsTotalOrder cmp) (xs : List T) (t : T) (r : Result ℕ ℕ) → IfOk r (IsPlaceOf cmp xs t) → IfErr r (IsGap cmp xs t) → is_ok r ≡ has cmp xs t
has_by_search o xs t (Ok i) found absent = sym (has-at o xs t i found)
has_by_search o xs t (Err i) found absent = sym (has-gap o xs t i absent)
