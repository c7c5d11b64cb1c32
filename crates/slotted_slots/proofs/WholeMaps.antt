-- Why the laws of slot maps hold: maps in key order with one value at each key are one list.
use Rattle.std.proofs.Common.{◌≡◌, ℕ, ◌<◌, true, not, List, [], ◌∷◌, Option, Some, None, fold, refl, sym, ap, subst, inl, inr, arith, ◌∙◌}
use Rattle.std.specs.Option.{option_and_then}
use Rattle.std.proofs.lemmas.Bool.{cases_eq, cases_Bool, cases_order, eq-eqb, ne_eqb, and_from, true≢false}
use Rattle.slotted_lists.proofs.Options.{same_options}
use Rattle.slotted_slots.specs.Ascending.{AllAbove, IsAscending}
use Rattle.slotted_slots.specs.Laws.{MapLaws}
use Rattle.slotted_slots.specs.Maps.{keys, values, value_of, with_pair, with_first, composed, map_of, turned, is_among, all_differ}
use Rattle.slotted_slots.proofs.Ascending.{AllAbove-down}
use Rattle.slotted_slots.proofs.MapLemmas.{value_of-below, IsAscending-with_pair}
use Rattle.slotted_slots.proofs.MapLaws.{value_of-composed, is_among-cons, IsInverse-turned}

-- the first pair is found
value_of-first : (p : ℕ × ℕ) (m : List (ℕ × ℕ)) → value_of (p ∷ m) p.0 ≡ Some p.1
value_of-first p m = rw (eq-eqb p.0 p.0 refl) refl

value_of-later : (p : ℕ × ℕ) (m : List (ℕ × ℕ)) (k : ℕ) → (p.0 ≡ k → ⊥) → value_of (p ∷ m) k ≡ value_of m k
value_of-later p m k other = rw (ne_eqb p.0 k other) refl

-- a key below that of the first pair is not found
value_of-before : (p : ℕ × ℕ) (m : List (ℕ × ℕ)) (k : ℕ) → IsAscending (keys (p ∷ m)) → k < p.0 → value_of (p ∷ m) k ≡ None
value_of-before p m k up lt = value_of-below k (p ∷ m) (lt, AllAbove-down k p.0 (keys m) (omega arith) up.0)

-- maps in key order that have the same at each key are one
pub same_maps : (m n : List (ℕ × ℕ)) → IsAscending (keys m) → IsAscending (keys n) → ((k : ℕ) → value_of m k ≡ value_of n k) → m ≡ n
same_maps [] [] up up' same = refl
same_maps [] (q ∷ n) up up' same = absurd (cc (same q.0, value_of-first q n))
same_maps (p ∷ m) [] up up' same = absurd (cc (same p.0, value_of-first p m))
same_maps (p ∷ m) (q ∷ n) up up' same = elim (cases_order p.0 q.0) [
  | inl key ↦
      let at_key : value_of (q ∷ n) p.0 ≡ Some q.1 = ap (value_of (q ∷ n)) key ∙ value_of-first q n in
      let value : p.1 ≡ q.1 = cc (value_of-first p m, same p.0, at_key) in
      let rest : m ≡ n = same_maps m n up.1 up'.1 (tail key) in
      λ i. (key i, value i) ∷ rest i
  | inr (inl below) ↦ absurd (cc (same p.0, value_of-first p m, value_of-before q n p.0 up' below))
  | inr (inr above) ↦ absurd (cc (same q.0, value_of-first q n, value_of-before p m q.0 up above))
]
  where
    tail : p.0 ≡ q.0 → (k : ℕ) → value_of m k ≡ value_of n k
    tail key k = elim (cases_eq p.0 k) [
      | inl here ↦ value_of-below k m (subst (λ a. AllAbove a (keys m)) here up.0) ∙ sym (value_of-below k n (subst (λ a. AllAbove a (keys n)) (sym key ∙ here) up'.0))
      | inr other ↦ sym (value_of-later p m k other) ∙ (same k ∙ value_of-later q n k (λ e. other (key ∙ e)))
    ]

-- a value has a key
pub key_of_value : (n : List (ℕ × ℕ)) → IsAscending (keys n) → (v : ℕ) → is_among v (values n) ≡ true → (k : ℕ) × (value_of n k ≡ Some v)
key_of_value [] up v there = absurd (true≢false (sym there))
key_of_value (p ∷ n) up v there = elim (is_among-cons v p.1 (values n) there) [
  | inl here ↦ (p.0, value_of-first p n ∙ ap Some here)
  | inr further ↦
      let rest = key_of_value n up.1 v further in (
        rest.0,
        elim (cases_eq p.0 rest.0) [
          | inl key ↦ absurd (cc (rest.1, value_of-below rest.0 n (subst (λ a. AllAbove a (keys n)) key up.0)))
          | inr other ↦ value_of-later p n rest.0 other ∙ rest.1
        ],
      )
]

-- values differ where each is found at one key alone
all_differ-from_keys : (n : List (ℕ × ℕ)) → IsAscending (keys n) → ((j k v : ℕ) → value_of n j ≡ Some v → value_of n k ≡ Some v → j ≡ k) → all_differ (values n) ≡ true
all_differ-from_keys [] up one = refl
all_differ-from_keys (p ∷ n) up one = and_from _ _ (elim (cases_Bool (is_among p.1 (values n))) [
  | inl there ↦
      let again = key_of_value n up.1 p.1 there in
      let away : p.0 ≡ again.0 → ⊥ = λ key. absurd (cc (again.1, value_of-below again.0 n (subst (λ a. AllAbove a (keys n)) key up.0))) in
      absurd (away (one p.0 again.0 p.1 (value_of-first p n) (value_of-later p n again.0 away ∙ again.1)))
  | inr missing ↦ ap not missing
]) (all_differ-from_keys n up.1 (λ j k v e f. one j k v (later j v e) (later k v f)))
  where
    later : (k v : ℕ) → value_of n k ≡ Some v → value_of (p ∷ n) k ≡ Some v
    later k v e = elim (cases_eq p.0 k) [
      | inl here ↦ absurd (cc (e, value_of-below k n (subst (λ a. AllAbove a (keys n)) here up.0)))
      | inr other ↦ value_of-later p n k other ∙ e
    ]

-- a map that is made of pairs is in key order
IsAscending-folded : (acc ps : List (ℕ × ℕ)) → IsAscending (keys acc) → IsAscending (keys (fold (λ m p. with_pair m p.0 p.1) acc ps))
IsAscending-folded acc [] up = up
IsAscending-folded acc (p ∷ ps) up = IsAscending-folded (with_pair acc p.0 p.1) ps (IsAscending-with_pair acc p.0 p.1 up)

IsAscending-map_of : (ps : List (ℕ × ℕ)) → IsAscending (keys (map_of ps))
IsAscending-map_of ps = IsAscending-folded [] ps tt

inverse_differs : (m : List (ℕ × ℕ)) → IsAscending (keys m) → all_differ (values m) ≡ true → all_differ (values (map_of (turned m))) ≡ true
inverse_differs m up differ =
    let back = IsInverse-turned m up differ in
    all_differ-from_keys (map_of (turned m)) (IsAscending-map_of (turned m)) (λ j k v e f. cc ((back v j).0 e, (back v k).0 f))

inverse_twice : (m : List (ℕ × ℕ)) → IsAscending (keys m) → all_differ (values m) ≡ true → map_of (turned (map_of (turned m))) ≡ m
inverse_twice m up differ =
    let n = map_of (turned m) in
    let back = IsInverse-turned m up differ in
    let again = IsInverse-turned n (IsAscending-map_of (turned m)) (inverse_differs m up differ) in
    same_maps (map_of (turned n)) m (IsAscending-map_of (turned n)) up (λ k. same_options (value_of (map_of (turned n)) k) (value_of m k)
    (λ v e. (back k v).0 ((again v k).0 e))
    (λ v e. (again v k).1 ((back k v).1 e)))

composing_is_associative : (a b c : List (ℕ × ℕ)) → IsAscending (keys b) → composed (composed a b) c ≡ composed a (composed b c)
composing_is_associative [] b c up = refl
composing_is_associative (p ∷ a) b c up = by (value_of b p.1) refl (composing_is_associative a b c up)
  where
    by : (o : Option ℕ) → value_of b p.1 ≡ o → composed (composed a b) c ≡ composed a (composed b c) → composed (with_first p.0 o (composed a b)) c ≡ with_first p.0 (value_of (composed b c) p.1) (composed a (composed b c))
    by (Some w) found rest =
        let whole : value_of (composed b c) p.1 ≡ value_of c w = value_of-composed b c up p.1 ∙ ap (option_and_then (value_of c)) found in
        ap (with_first p.0 (value_of c w)) rest ∙ ap (λ o. with_first p.0 o (composed a (composed b c))) (sym whole)
    by None found rest =
        let whole : value_of (composed b c) p.1 ≡ None = value_of-composed b c up p.1 ∙ ap (option_and_then (value_of c)) found in
        rest ∙ ap (λ o. with_first p.0 o (composed a (composed b c))) (sym whole)

pub map_laws : MapLaws
map_laws = record {
  inverse_differs = inverse_differs;
  inverse_twice = inverse_twice;
  composing_is_associative = composing_is_associative;
}
