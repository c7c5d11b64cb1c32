-- The loops over maps of names, step by step.
use Rattle.std.proofs.Common.{◌≡◌, ◌≢◌, ◌<◌, ◌≤◌, ℕ, zero, suc, ◌+◌, List, [], ◌∷◌, ◌++◌, Some, length, take, drop, map, get_or, sym, ◌∙◌, ap, refl, subst, arith, inl, inr, drop-cons, add-one}
use Rattle.std.specs.Prelude.{slice_get, slice_set, slice_index_or, All, IsSome, IsTrue, cond, Bool, ◌↔◌}
use Rattle.std.specs.List.{zip}
use Rattle.std.proofs.lemmas.Option.{get_or_from_slice_get}
use Rattle.std.proofs.lemmas.Bool.{cases_eq, ne_eqb, false≢true}
use Rattle.slotted_lists.proofs.Members.{In}
use Rattle.slotted_theory.specs.FiniteMaps.{IsInjectiveMap, with_values}
use Rattle.slotted_slots.specs.Ascending as slots
use Rattle.slotted_slots.specs.Maps.{value_of, with_pair, keys, values, all_differ}
use Rattle.slotted_slots.specs.Table.{Table, fresh_slot, is_known, numeric_slot}
use Rattle.slotted_slots.proofs.TableLaws.{is_known-numeric_slot}
use Rattle.slotted_nodes.specs.Form.{Form, with_name}
use Rattle.slotted_languages.specs.Shape.{with_names}
use Rattle.slotted_model.specs.Ascending as model
use Rattle.slotted_proofs.proofs.Bridges.{differ_injective, injective_differ}
use Rattle.slotted_classes.specs.Names.{with_pairs, fresh_slots, put}

-- the element at a place, and those after it
drop_at : {X : Type 0} (xs : List X) (i : ℕ) (x : X) → i < length xs → slice_get xs i ≡ Some x → drop i xs ≡ x ∷ drop (i + 1) xs
drop_at xs i x l h = rw add-one (drop-cons xs i x l ∙ ap (λ y. y ∷ drop (suc i) xs) (get_or_from_slice_get xs i x x h))

-- one more pair
pub with_pairs-step : (m : List (ℕ × ℕ)) (xs ys : List ℕ) (i x y : ℕ) → i < length xs → i < length ys → slice_get xs i ≡ Some x → slice_get ys i ≡ Some y → with_pairs (with_pair m x y) (zip (drop (i + 1) xs) (drop (i + 1) ys)) ≡ with_pairs m (zip (drop i xs) (drop i ys))
with_pairs-step m xs ys i x y k l p q =
    sym (λ j. with_pairs m (zip (drop_at xs i x k p j) (drop_at ys i y l q j)))

pub length-fresh_slots : (c n : ℕ) → length (fresh_slots c n) ≡ n
length-fresh_slots c zero = refl
length-fresh_slots c (suc n) = ap suc (length-fresh_slots (suc c) n)

fresh_slots-more : (c n : ℕ) → fresh_slots c (suc n) ≡ fresh_slots c n ++ fresh_slot (c + n) ∷ []
fresh_slots-more c zero = let e : c ≡ c + 0 = omega arith in ap (λ k. fresh_slot k ∷ []) e
fresh_slots-more c (suc n) =
    let e : suc c + n ≡ c + suc n = omega arith in
    ap (λ l. fresh_slot c ∷ l) (fresh_slots-more (suc c) n ∙ ap (λ k. fresh_slots (suc c) n ++ fresh_slot k ∷ []) e)

-- a write where two lists meet
set_seam : {X : Type 0} (xs ys : List X) (y v : X) → slice_set (xs ++ y ∷ ys) (length xs) v ≡ (xs ++ v ∷ []) ++ ys
set_seam [] ys y v = refl
set_seam (x ∷ xs) ys y v = ap (λ l. x ∷ l) (set_seam xs ys y v)

-- a write at the place i of a list whose first i elements are new
set_next : {X : Type 0} (ns xs : List X) (i : ℕ) (v : X) → length ns ≡ i → i < length xs → slice_set (ns ++ drop i xs) i v ≡ (ns ++ v ∷ []) ++ drop (i + 1) xs
set_next ns xs i v n l =
    let d : drop i xs ≡ get_or xs i v ∷ drop (suc i) xs = drop-cons xs i v l in
    rw (add-one, d) (ap (λ k. slice_set (ns ++ get_or xs i v ∷ drop (suc i) xs) k v) (sym n) ∙ set_seam ns (drop (suc i) xs) (get_or xs i v) v)

-- one more fresh slot
pub fresh_slots-step : (c i : ℕ) (xs : List ℕ) → i < length xs → slice_set (fresh_slots c i ++ drop i xs) i (fresh_slot (c + i)) ≡ fresh_slots c (i + 1) ++ drop (i + 1) xs
fresh_slots-step c i xs l =
    set_next (fresh_slots c i) xs i (fresh_slot (c + i)) (length-fresh_slots c i) l
    ∙ ap (λ ns. ns ++ drop (i + 1) xs) (sym (fresh_slots-more c i) ∙ ap (fresh_slots c) (sym (add-one i)))

length-put : (m : List (ℕ × ℕ)) (xs : List ℕ) (i : ℕ) → i ≤ length xs → length (map (put m) (take i xs)) ≡ i
length-put m xs zero l = refl
length-put m [] (suc i) l = absurd (omega arith)
length-put m (x ∷ xs) (suc i) l = ap suc (length-put m xs i (omega arith))

take-put : (m : List (ℕ × ℕ)) (xs : List ℕ) (i : ℕ) → i < length xs → map (put m) (take i xs) ++ put m (get_or xs i 0) ∷ [] ≡ map (put m) (take (suc i) xs)
take-put m [] i l = absurd (omega arith)
take-put m (x ∷ xs) zero l = refl
take-put m (x ∷ xs) (suc i) l = ap (λ r. put m x ∷ r) (take-put m xs i (omega arith))

-- one more name put
pub put-step : (m : List (ℕ × ℕ)) (xs : List ℕ) (i : ℕ) → i < length xs → slice_set (map (put m) (take i xs) ++ drop i xs) i (put m (get_or xs i 0)) ≡ map (put m) (take (i + 1) xs) ++ drop (i + 1) xs
put-step m xs i l =
    set_next (map (put m) (take i xs)) xs i (put m (get_or xs i 0)) (length-put m xs i (omega arith)) l
    ∙ ap (λ ns. ns ++ drop (i + 1) xs) (take-put m xs i l ∙ ap (λ k. map (put m) (take k xs)) (sym (add-one i)))

-- the name that is still to be put
at_seam : (ns ys : List ℕ) (y : ℕ) → get_or (ns ++ y ∷ ys) (length ns) 0 ≡ y
at_seam [] ys y = refl
at_seam (n ∷ ns) ys y = at_seam ns ys y

pub put-next : (m : List (ℕ × ℕ)) (xs : List ℕ) (i : ℕ) → i < length xs → get_or (map (put m) (take i xs) ++ drop i xs) i 0 ≡ get_or xs i 0
put-next m xs i l =
    let d : drop i xs ≡ get_or xs i 0 ∷ drop (suc i) xs = drop-cons xs i 0 l in
    ap (λ r. get_or (map (put m) (take i xs) ++ r) i 0) d
    ∙ (ap (λ k. get_or (map (put m) (take i xs) ++ get_or xs i 0 ∷ drop (suc i) xs) k 0) (sym (length-put m xs i (omega arith)))
    ∙ at_seam (map (put m) (take i xs)) (drop (suc i) xs) (get_or xs i 0))

-- keys

pub key-In : (m : List (ℕ × ℕ)) (x : ℕ) → IsSome (value_of m x) → In x (keys m)
key-In [] x h = absurd (false≢true h)
key-In (p ∷ m) x h = elim (cases_eq p.0 x) [
  | inl e ↦ inl (sym e)
  | inr n ↦ inr (key-In m x (subst (λ (b : Bool). IsSome (cond b (Some p.1) (value_of m x))) (ne_eqb p.0 x n) h))
]

pub In-at : (xs : List ℕ) (k d : ℕ) → k < length xs → In (slice_index_or xs k d) xs
In-at [] k d l = absurd (omega arith)
In-at (x ∷ xs) zero d l = inl refl
In-at (x ∷ xs) (suc k) d l = inr (In-at xs k d (omega arith))

pub at_In : (P : ℕ → Type 0) (xs : List ℕ) → ((k d : ℕ) → k < length xs → P (slice_index_or xs k d)) → (x : ℕ) → In x xs → P x
at_In P [] h x i = absurd i
at_In P (y ∷ xs) h x (inl e) = subst P (sym e) (h 0 0 (omega arith))
at_In P (y ∷ xs) h x (inr i) = at_In P xs (λ k d l. h (suc k) d (omega arith)) x i

above_each : (k : ℕ) (xs : List ℕ) → slots.AllAbove k xs → (z : ℕ) → In z xs → k < z
above_each k [] a z h = absurd h
above_each k (x ∷ xs) a z (inl e) = omega (arith, a.0)
above_each k (x ∷ xs) a z (inr h) = above_each k xs a.1 z h

-- ascending lists of which one is within the other
within_shorter : (ys xs : List ℕ) → slots.IsAscending xs → slots.IsAscending ys → ((z : ℕ) → In z xs → In z ys) → length xs ≤ length ys
within_shorter ys [] a b h = omega arith
within_shorter [] (x ∷ xs) a b h = absurd (h x (inl refl))
within_shorter (y ∷ ys) (x ∷ xs) a b h = elim (h x (inl refl)) [
  | inl e ↦ omega (arith, within_shorter ys xs a.1 b.1 (λ z i. past y (x ∷ xs) z (h z (inr i)) (let l : x < z = above_each x xs a.0 z i in λ q. omega (arith, e, q))))
  | inr k ↦
      let l : y < x = above_each y ys b.0 x k in
      omega (arith, within_shorter ys (x ∷ xs) a b.1 (λ z i. past y (x ∷ xs) z (h z i) (elim i [ inl q ↦ λ r. omega (arith, q, r) | inr q ↦ let u : x < z = above_each x xs a.0 z q in λ r. omega (arith, r) ])))
]
  where
    past : (y : ℕ) (us : List ℕ) (z : ℕ) → In z (y ∷ ys) → z ≢ y → In z ys
    past y us z (inl e) n = absurd (n e)
    past y us z (inr i) n = i

same_ascending : (xs ys : List ℕ) → slots.IsAscending xs → slots.IsAscending ys → length xs ≡ length ys → ((z : ℕ) → In z xs → In z ys) → xs ≡ ys
same_ascending [] [] a b n h = refl
same_ascending [] (y ∷ ys) a b n h = absurd (omega (arith, n))
same_ascending (x ∷ xs) [] a b n h = absurd (omega (arith, n))
same_ascending (x ∷ xs) (y ∷ ys) a b n h = elim (h x (inl refl)) [
  | inl e ↦ λ i. e i ∷ same_ascending xs ys a.1 b.1 (omega (arith, n)) (λ z k. past z (h z (inr k)) (let l : x < z = above_each x xs a.0 z k in λ q. omega (arith, e, q))) i
  | inr k ↦
      let l : y < x = above_each y ys b.0 x k in
      absurd (omega (arith, n, within_shorter ys (x ∷ xs) a b.1 (λ z i. past z (h z i) (elim i [ inl q ↦ λ r. omega (arith, q, r) | inr q ↦ let u : x < z = above_each x xs a.0 z q in λ r. omega (arith, r) ]))))
]
  where
    past : (z : ℕ) → In z (y ∷ ys) → z ≢ y → In z ys
    past z (inl e) n = absurd (n e)
    past z (inr i) n = i

-- as many keys, and each slot is one
pub keys_are : (ss : List ℕ) (m : List (ℕ × ℕ)) → slots.IsAscending ss → slots.IsAscending (keys m) → length ss ≡ length (keys m) → ((k d : ℕ) → k < length ss → IsSome (value_of m (slice_index_or ss k d))) → keys m ≡ ss
keys_are ss m a b n h = sym (same_ascending ss (keys m) a b n (λ z i. key-In m z (at_In (λ x. IsSome (value_of m x)) ss h z i)))

-- the two words for lists that rise

below_above : (x : ℕ) (ys : List ℕ) → model.IsBelowAll x ys → slots.AllAbove x ys
below_above x [] h = tt
below_above x (y ∷ ys) h = (h.0, below_above x ys h.1)

pub rising : (xs : List ℕ) → model.IsAscending xs → slots.IsAscending xs
rising [] h = tt
rising (x ∷ xs) h = (below_above x xs h.0, rising xs h.1)

-- no value stands twice exactly if the map is injective
pub all_differ-iff : (m : List (ℕ × ℕ)) → IsTrue (all_differ (values m)) ↔ IsInjectiveMap m
all_differ-iff m = (differ_injective m, injective_differ m)

-- each table knows numeric names
pub numeric-known : (t : Table) (m : List (ℕ × ℕ)) → All (λ x. IsTrue (is_known t x)) (values (with_values numeric_slot m))
numeric-known t [] k d l = absurd (omega (arith, l))
numeric-known t (p ∷ m) zero d l = is_known-numeric_slot t p.1
numeric-known t (p ∷ m) (suc k) d l = numeric-known t m k d (omega (arith, l))

-- one more place passes
pub below_next : (P : ℕ → Type 0) (xs : List ℕ) (i x : ℕ) → i < length xs → slice_get xs i ≡ Some x → P x → ((k d : ℕ) → k < i → P (slice_index_or xs k d)) → (k d : ℕ) → k < i + 1 → P (slice_index_or xs k d)
below_next P xs i x l e p h k d m = elim (cases_eq k i) [
  | inl q ↦ subst P (sym (ap (λ j. get_or xs j d) q ∙ get_or_from_slice_get xs i x d e)) p
  | inr n ↦ h k d (omega (arith, n))
]

-- one more place of a node put
pub put_form-step : (m : List (ℕ × ℕ)) (f h l : Form) (i x y : ℕ) → i < length f.names → h ≡ with_names f (map (put m) (take i f.names) ++ drop i f.names) → x ≡ get_or h.names i 0 → y ≡ put m x → l ≡ with_name h i y → l ≡ with_names f (map (put m) (take (i + 1) f.names) ++ drop (i + 1) f.names)
put_form-step m f h l i x y k eh ex ey el =
    let ns : List ℕ = map (put m) (take i f.names) ++ drop i f.names in
    let n : x ≡ get_or f.names i 0 = ex ∙ (ap (λ (z : Form). get_or z.names i 0) eh ∙ put-next m f.names i k) in
    el ∙ ((λ j. with_name (eh j) i ((ey ∙ ap (put m) n) j)) ∙ ap (with_names f) (put-step m f.names i k))
