-- What is found among keys and values side by side, and what an edit at a place does.
use Rattle.std.proofs.Common.{◌≡◌, ℕ, zero, suc, Bool, true, false, eqb, List, [], ◌∷◌, length, get_or, set, None, refl, sym, ap, arith, ◌∙◌}
use Rattle.std.specs.Prelude.{slice_get}
use Rattle.std.specs.declared.cmp.Ordering.{Ordering}
use Rattle.std.specs.declared.cmp.Ordering.TheVariants.{Less, Equal, Greater}
use Rattle.std.specs.Cmp.{IsTotalOrder, tied_back, alike_right}
use Rattle.std.specs.List.{insert, remove, zip}
use Rattle.std.specs.List.Sorted.{IsStrictlySortedBy}
use Rattle.std.specs.Map.{keys_of}
use Rattle.std.specs.Ordering.{ordering_reverse}
use Rattle.std.proofs.lemmas.Bool.{ne_eqb, true≢false}
use Rattle.std.proofs.lemmas.Map.Keys.{Less-from_sorted, sorted_tail}
use Rattle.slotted_slots.specs.Sets.{IsPlaceOf, IsGap}
use Rattle.slotted_maps.specs.SmallMaps.{insert_entry, entry_value, without_entry}

-- the keys of keys and values side by side
pub keys_of-zip : {K V : Type 0} (ks : List K) (vs : List V) → length ks ≡ length vs → keys_of (zip ks vs) ≡ ks
keys_of-zip [] vs same = refl
keys_of-zip (x ∷ xs) [] same = absurd (omega arith)
keys_of-zip (x ∷ xs) (v ∷ vs) same = ap (λ r. x ∷ r) (keys_of-zip xs vs (omega arith))

pub length-zip : {K V : Type 0} (ks : List K) (vs : List V) → length ks ≡ length vs → length (zip ks vs) ≡ length ks
length-zip [] vs same = refl
length-zip (x ∷ xs) [] same = absurd (omega arith)
length-zip (x ∷ xs) (v ∷ vs) same = ap (λ n. suc n) (length-zip xs vs (omega arith))

-- a test for no keys is one for no entries
pub empty-zip : {K V : Type 0} (ks : List K) (vs : List V) (es : List (K × V)) (r : Bool) → length ks ≡ length vs → zip ks vs ≡ es → r ≡ eqb (length ks) 0 → (r ≡ true → es ≡ []) × (es ≡ [] → r ≡ true)
empty-zip [] vs es r same is test = (λ _. sym is, λ _. test)
empty-zip (x ∷ xs) [] es r same is test = absurd (omega arith)
empty-zip (x ∷ xs) (v ∷ vs) es r same is test =
    let none : r ≡ false = test ∙ ne_eqb (length (x ∷ xs)) 0 (λ e. omega arith) in
    (λ yes. absurd (true≢false (sym yes ∙ none)), λ empty. absurd (cc))

module _ {K : Type 0} {cmp : K → K → Ordering} (o : IsTotalOrder cmp) where
  -- the other way round
  turned : (x y : K) (r : Ordering) → cmp x y ≡ r → cmp y x ≡ ordering_reverse r
  turned x y r e = o.antisymm y x ∙ ap ordering_reverse e

  -- in the tail, a place is one lower
  tail_at : (x : K) (xs : List K) (k : K) (i : ℕ) → IsPlaceOf cmp (x ∷ xs) k (suc i) → IsPlaceOf cmp xs k i
  tail_at x xs k i here = record { in_range = omega (arith, here.in_range); equal = here.equal }

  tail_gap : (x : K) (xs : List K) (k : K) (i : ℕ) → IsGap cmp (x ∷ xs) k (suc i) → IsGap cmp xs k i
  tail_gap x xs k i gap = record {
    in_range = omega (arith, gap.in_range);
    smaller_before = λ j d lt. gap.smaller_before (suc j) d (omega arith);
    greater_after = λ j d le lt. gap.greater_after (suc j) d (omega arith) (omega arith);
  }

  first_gap : (x : K) (xs : List K) (k : K) → IsGap cmp (x ∷ xs) k 0 → IsGap cmp xs k 0
  first_gap x xs k gap = record {
    in_range = omega arith;
    smaller_before = λ j d lt. absurd (omega arith);
    greater_after = λ j d le lt. gap.greater_after (suc j) d (omega arith) (omega arith);
  }

  -- k is greater than a key before its place
  past : (x : K) (xs : List K) (k : K) (i : ℕ) → IsStrictlySortedBy cmp (x ∷ xs) → IsPlaceOf cmp (x ∷ xs) k (suc i) → cmp k x ≡ Greater
  past x xs k i up here =
      let below : cmp x (get_or xs i k) ≡ Less = Less-from_sorted cmp (x ∷ xs) 0 (suc i) k up (omega arith) here.in_range in
      turned x k Less (sym (alike_right o (get_or xs i k) k x (here.equal k)) ∙ below)

  at_first : (x : K) (xs : List K) (k : K) → IsPlaceOf cmp (x ∷ xs) k 0 → cmp k x ≡ Equal
  at_first x xs k here = tied_back o x k (here.equal k)

  before : (x : K) (xs : List K) (k : K) → IsGap cmp (x ∷ xs) k 0 → cmp k x ≡ Less
  before x xs k gap = turned x k Greater (gap.greater_after 0 k (omega arith) (omega arith))

  after : (x : K) (xs : List K) (k : K) (i : ℕ) → IsGap cmp (x ∷ xs) k (suc i) → cmp k x ≡ Greater
  after x xs k i gap = turned x k Less (gap.smaller_before 0 k (omega arith))

  module _ {V : Type 0} where
    pub entry_value-at : (ks : List K) (vs : List V) → length ks ≡ length vs → IsStrictlySortedBy cmp ks → (k : K) (i : ℕ) → IsPlaceOf cmp ks k i → entry_value cmp (zip ks vs) k ≡ slice_get vs i
    entry_value-at [] vs same up k i here = absurd (omega (arith, here.in_range))
    entry_value-at (x ∷ xs) [] same up k i here = absurd (omega arith)
    entry_value-at (x ∷ xs) (v ∷ vs) same up k zero here = rw (at_first x xs k here) refl
    entry_value-at (x ∷ xs) (v ∷ vs) same up k (suc i) here =
        rw (past x xs k i up here) (entry_value-at xs vs (omega arith) (sorted_tail cmp x xs up) k i (tail_at x xs k i here))

    pub entry_value-gap : (ks : List K) (vs : List V) (k : K) (i : ℕ) → IsGap cmp ks k i → entry_value cmp (zip ks vs) k ≡ None
    entry_value-gap [] vs k i gap = refl
    entry_value-gap (x ∷ xs) [] k i gap = refl
    entry_value-gap (x ∷ xs) (v ∷ vs) k zero gap = rw (before x xs k gap) (entry_value-gap xs vs k 0 (first_gap x xs k gap))
    entry_value-gap (x ∷ xs) (v ∷ vs) k (suc i) gap = rw (after x xs k i gap) (entry_value-gap xs vs k i (tail_gap x xs k i gap))

    pub insert_entry-at : (ks : List K) (vs : List V) → length ks ≡ length vs → IsStrictlySortedBy cmp ks → (k : K) (v : V) (i : ℕ) → IsPlaceOf cmp ks k i → insert_entry cmp (zip ks vs) k v ≡ zip ks (set vs i v)
    insert_entry-at [] vs same up k v i here = absurd (omega (arith, here.in_range))
    insert_entry-at (x ∷ xs) [] same up k v i here = absurd (omega arith)
    insert_entry-at (x ∷ xs) (w ∷ vs) same up k v zero here = rw (at_first x xs k here) refl
    insert_entry-at (x ∷ xs) (w ∷ vs) same up k v (suc i) here =
        rw (past x xs k i up here) (ap (λ r. (x, w) ∷ r) (insert_entry-at xs vs (omega arith) (sorted_tail cmp x xs up) k v i (tail_at x xs k i here)))

    pub insert_entry-gap : (ks : List K) (vs : List V) → length ks ≡ length vs → (k : K) (v : V) (i : ℕ) → IsGap cmp ks k i → insert_entry cmp (zip ks vs) k v ≡ zip (insert ks i k) (insert vs i v)
    insert_entry-gap [] [] same k v zero gap = refl
    insert_entry-gap [] [] same k v (suc i) gap = absurd (omega (arith, gap.in_range))
    insert_entry-gap [] (w ∷ vs) same k v i gap = absurd (omega arith)
    insert_entry-gap (x ∷ xs) [] same k v i gap = absurd (omega arith)
    insert_entry-gap (x ∷ xs) (w ∷ vs) same k v zero gap = rw (before x xs k gap) refl
    insert_entry-gap (x ∷ xs) (w ∷ vs) same k v (suc i) gap = rw (after x xs k i gap) (ap (λ r. (x, w) ∷ r) (insert_entry-gap xs vs (omega arith) k v i (tail_gap x xs k i gap)))

    pub without_entry-at : (ks : List K) (vs : List V) → length ks ≡ length vs → IsStrictlySortedBy cmp ks → (k : K) (i : ℕ) → IsPlaceOf cmp ks k i → without_entry cmp (zip ks vs) k ≡ zip (remove ks i) (remove vs i)
    without_entry-at [] vs same up k i here = absurd (omega (arith, here.in_range))
    without_entry-at (x ∷ xs) [] same up k i here = absurd (omega arith)
    without_entry-at (x ∷ xs) (w ∷ vs) same up k zero here = rw (at_first x xs k here) refl
    without_entry-at (x ∷ xs) (w ∷ vs) same up k (suc i) here =
        rw (past x xs k i up here) (ap (λ r. (x, w) ∷ r) (without_entry-at xs vs (omega arith) (sorted_tail cmp x xs up) k i (tail_at x xs k i here)))

    pub without_entry-gap : (ks : List K) (vs : List V) (k : K) (i : ℕ) → IsGap cmp ks k i → without_entry cmp (zip ks vs) k ≡ zip ks vs
    without_entry-gap [] vs k i gap = refl
    without_entry-gap (x ∷ xs) [] k i gap = refl
    without_entry-gap (x ∷ xs) (w ∷ vs) k zero gap = rw (before x xs k gap) (ap (λ r. (x, w) ∷ r) (without_entry-gap xs vs k 0 (first_gap x xs k gap)))
    without_entry-gap (x ∷ xs) (w ∷ vs) k (suc i) gap = rw (after x xs k i gap) (ap (λ r. (x, w) ∷ r) (without_entry-gap xs vs k i (tail_gap x xs k i gap)))
