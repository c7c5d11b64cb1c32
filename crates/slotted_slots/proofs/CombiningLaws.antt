-- Maps put together and completed, at each key.
use Rattle.std.proofs.Common.{◌≡◌, ℕ, zero, suc, ◌<◌, Bool, true, false, eqb, List, [], ◌∷◌, length, get_or, Option, Some, None, refl, sym, ap, subst, inl, inr, arith, ◌∙◌, if◌then◌else◌}
use Rattle.std.specs.Prelude.{unwrap_or, is_some}
use Rattle.std.specs.List.{list_all}
use Rattle.std.proofs.lemmas.Bool.{cases_eq, eq-eqb, ne_eqb, eqb-true, and_parts, and_from, true≢false}
use Rattle.slotted_slots.specs.Ascending.{AllAbove, IsAscending}
use Rattle.slotted_slots.specs.Combining.{HaveTheSame, Agree, agrees_with, joined, either_value}
use Rattle.slotted_slots.specs.Maps.{keys, values, value_of, is_among, KnowsAll}
use Rattle.slotted_slots.proofs.MapLemmas.{value_of-below}
use Rattle.slotted_slots.proofs.MapLaws.{value_of-fold, all_differ-ascending, is_among-cons, is_among-first, is_among-more}

-- two tests that follow from each other are one
pub same_test : (a b : Bool) → (a ≡ true → b ≡ true) → (b ≡ true → a ≡ true) → a ≡ b
same_test true b there back = sym (there refl)
same_test false true there back = back refl
same_test false false there back = refl

-- what all numbers of a list pass, each of them passes
pub passes_among : (p : ℕ → Bool) (xs : List ℕ) → list_all p xs ≡ true → (v : ℕ) → is_among v xs ≡ true → p v ≡ true
passes_among p [] all v there = absurd (true≢false (sym there))
passes_among p (x ∷ xs) all v there =
    let parts = and_parts (p x) (list_all p xs) all in
    elim (is_among-cons v x xs there) [
      | inl here ↦ subst (λ y. p y ≡ true) here parts.0
      | inr rest ↦ passes_among p xs parts.1 v rest
    ]

pub all_pass : (p : ℕ → Bool) (xs : List ℕ) → ((v : ℕ) → is_among v xs ≡ true → p v ≡ true) → list_all p xs ≡ true
all_pass p [] each = refl
all_pass p (x ∷ xs) each = and_from _ _ (each x (is_among-first x x xs refl)) (all_pass p xs (λ v there. each v (is_among-more v x xs there)))

-- a number of a list is among it
pub is_among-at : (xs : List ℕ) (i d : ℕ) → i < length xs → is_among (get_or xs i d) xs ≡ true
is_among-at [] i d lt = absurd (omega arith)
is_among-at (x ∷ xs) zero d lt = is_among-first x x xs refl
is_among-at (x ∷ xs) (suc i) d lt = is_among-more _ x xs (is_among-at xs i d (omega arith))

-- a map has a value at its keys
pub is_some-value_of : (m : List (ℕ × ℕ)) (k : ℕ) → is_some (value_of m k) ≡ is_among k (keys m)
is_some-value_of [] k = refl
is_some-value_of (p ∷ m) k = elim (cases_eq p.0 k) [
  | inl here ↦ rw (eq-eqb p.0 k here) refl
  | inr other ↦ rw (ne_eqb p.0 k other) (is_some-value_of m k)
]

-- a map knows all numbers that are its keys
pub KnowsAll-from_keys : (m : List (ℕ × ℕ)) (xs : List ℕ) → HaveTheSame xs (keys m) → KnowsAll m xs
KnowsAll-from_keys m xs same k d lt = is_some-value_of m (get_or xs k d) ∙ (sym (same (get_or xs k d)) ∙ is_among-at xs k d lt)

-- keys and values are one set where each value is a key and each key a value
pub HaveTheSame-from_tests : (m : List (ℕ × ℕ)) → list_all (λ v. is_some (value_of m v)) (values m) ≡ true → list_all (λ k. is_among k (values m)) (keys m) ≡ true → HaveTheSame (keys m) (values m)
HaveTheSame-from_tests m first second v =
    same_test (is_among v (keys m)) (is_among v (values m))
    (passes_among (λ k. is_among k (values m)) (keys m) second v)
    (λ there. sym (is_some-value_of m v) ∙ passes_among (λ w. is_some (value_of m w)) (values m) first v there)

pub values_pass : (m : List (ℕ × ℕ)) → HaveTheSame (keys m) (values m) → list_all (λ v. is_some (value_of m v)) (values m) ≡ true
values_pass m same = all_pass (λ v. is_some (value_of m v)) (values m) (λ v there. is_some-value_of m v ∙ (same v ∙ there))

pub keys_pass : (m : List (ℕ × ℕ)) → HaveTheSame (keys m) (values m) → list_all (λ k. is_among k (values m)) (keys m) ≡ true
keys_pass m same = all_pass (λ k. is_among k (values m)) (keys m) (λ k there. sym (same k) ∙ there)

-- the test says whether two maps agree
pub Agree-from_test : (m n : List (ℕ × ℕ)) → agrees_with m n ≡ true → Agree m n
Agree-from_test [] n test k v w e f = absurd (cc)
Agree-from_test (p ∷ m) n test k v w e f =
    let parts = and_parts (eqb (unwrap_or (value_of n p.0) p.1) p.1) (agrees_with m n) test in
    elim (cases_eq p.0 k) [
      | inl here ↦
          let own : Some p.1 ≡ Some v = rw (eq-eqb p.0 k here) at e in
          let there : value_of n p.0 ≡ Some w = ap (value_of n) here ∙ f in
          let equal : w ≡ p.1 = ap (λ o. unwrap_or o p.1) (sym there) ∙ eqb-true _ _ parts.0 in
          cc
      | inr other ↦ Agree-from_test m n parts.1 k v w (rw (ne_eqb p.0 k other) at e) f
    ]

pub test_from-Agree : (m n : List (ℕ × ℕ)) → IsAscending (keys m) → Agree m n → agrees_with m n ≡ true
test_from-Agree [] n up agree = refl
test_from-Agree (p ∷ m) n up agree =
    and_from _ _ (eq-eqb _ _ (by (value_of n p.0) refl)) (test_from-Agree m n up.1 (λ k v w e f. agree k v w (later k v e) f))
  where
    by : (o : Option ℕ) → value_of n p.0 ≡ o → unwrap_or o p.1 ≡ p.1
    by (Some w) there = sym (agree p.0 p.1 w (rw (eq-eqb p.0 p.0 refl) refl) there)
    by None there = refl

    later : (k v : ℕ) → value_of m k ≡ Some v → value_of (p ∷ m) k ≡ Some v
    later k v e = elim (cases_eq p.0 k) [
      | inl here ↦ absurd (cc (value_of-below k m (subst (λ a. AllAbove a (keys m)) here up.0)))
      | inr other ↦ rw (ne_eqb p.0 k other) e
    ]

-- both maps in one have at each key what either has
pub value_of-joined : (m n : List (ℕ × ℕ)) → IsAscending (keys n) → Agree m n → (k : ℕ) → value_of (joined m n) k ≡ either_value (value_of m k) (value_of n k)
value_of-joined m n up agree k = value_of-fold m n (all_differ-ascending (keys n) up) k ∙ by (value_of m k) (value_of n k) (is_among k (keys n)) refl refl (is_some-value_of n k)
  where
    by : (v w : Option ℕ) (there : Bool) → value_of m k ≡ v → value_of n k ≡ w → is_some w ≡ there → (if there then w else v) ≡ either_value v w
    by (Some v) (Some w) true e f known = ap Some (sym (agree k v w e f))
    by (Some v) (Some w) false e f known = absurd (cc)
    by (Some v) None true e f known = absurd (cc)
    by (Some v) None false e f known = refl
    by None (Some w) true e f known = refl
    by None (Some w) false e f known = absurd (cc)
    by None None true e f known = absurd (cc)
    by None None false e f known = refl
