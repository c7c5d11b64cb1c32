-- The words for maps of the code and of the model, and which maps are full.
use Rattle.std.proofs.Common.{◌≡◌, ℕ, List, [], ◌∷◌, Option, Some, None, Bool, true, false, refl, sym, ◌∙◌, subst, inl, inr}
use Rattle.std.specs.Prelude.{not, ◌&&◌, ◌||◌, option_map}
use Rattle.std.specs.List.{filter_map, cons_option}
use Rattle.std.proofs.lemmas.Bool.{cases_eq, eq-eqb, ne_eqb, false≢true}
use Rattle.slotted_lists.proofs.Maps.{HasValue-is_among}
use Rattle.slotted_theory.specs.FiniteMaps.{HasValue, IsInjectiveMap}
use Rattle.slotted_theory.specs.FiniteMaps as model
use Rattle.slotted_slots.specs.Ascending as slots
use Rattle.slotted_slots.specs.Maps.{keys, values, value_of, composed, with_first, is_among, all_differ, map_of, turned}
use Rattle.slotted_slots.proofs.MapLaws.{value_of-map_of, keys-turned}
use Rattle.slotted_model.specs.Ascending as rising
use Rattle.slotted_model.specs.Correspondence.{AllDifferent, IsFullMap, composite, flipped, same_names}
use Rattle.slotted_model.proofs.Correspondences.FullIds.{ascending-different}

-- what is found at a key, in both words
pub value_of-model : (m : List (ℕ × ℕ)) (k : ℕ) → value_of m k ≡ model.value_of m k
value_of-model [] k = refl
value_of-model (p ∷ m) k = elim (cases_eq p.0 k) [
  | inl e ↦ rw (eq-eqb p.0 k e, eq-eqb k p.0 (sym e)) refl
  | inr n ↦ rw (ne_eqb p.0 k n, ne_eqb k p.0 (λ e. n (sym e))) (value_of-model m k)
]

-- first the one map, then the other, in both words
with_first-option : (k : ℕ) (o : Option ℕ) (m : List (ℕ × ℕ)) → with_first k o m ≡ cons_option (option_map (λ u. (k, u)) o) m
with_first-option k None m = refl
with_first-option k (Some u) m = refl

pub composed-model : (m n : List (ℕ × ℕ)) → composed m n ≡ composite m n
composed-model [] n = refl
composed-model (p ∷ m) n =
    with_first-option p.0 (value_of n p.1) (composed m n)
    ∙ (λ i. cons_option (option_map (λ u. (p.0, u)) (value_of-model n p.1 i)) (composed-model m n i))

-- maps in which the same is found make the same composite
pub composite-agrees : (A B C : List (ℕ × ℕ)) → ((x : ℕ) → model.value_of B x ≡ model.value_of C x) → composite A B ≡ composite A C
composite-agrees A B C e = λ i. filter_map (λ p. option_map (λ u. (p.0, u)) (e p.1 i)) A

-- no value stands twice

pub among_is : (m : List (ℕ × ℕ)) (v : ℕ) → is_among v (values m) ≡ true → HasValue m v
among_is [] v h = absurd (false≢true h)
among_is (p ∷ m) v h = elim (cases_eq p.1 v) [
  | inl e ↦ inl (sym e)
  | inr n ↦ inr (among_is m v (subst (λ (b : Bool). (b || is_among v (values m)) ≡ true) (ne_eqb p.1 v n) h))
]

not_and : (b c : Bool) → (not b && c) ≡ true → (b ≡ false) × (c ≡ true)
not_and true c h = absurd (false≢true h)
not_and false c h = (refl, h)

both_true : (b c : Bool) → b ≡ false → c ≡ true → (not b && c) ≡ true
both_true true c h k = absurd (false≢true (sym h))
both_true false c h k = k

absent : (b : Bool) → ¬ (b ≡ true) → b ≡ false
absent true n = absurd (n refl)
absent false n = refl

-- a test for it that the code has
pub differ_injective : (m : List (ℕ × ℕ)) → all_differ (values m) ≡ true → IsInjectiveMap m
differ_injective [] h = tt
differ_injective (p ∷ m) h =
    let q : (is_among p.1 (values m) ≡ false) × (all_differ (values m) ≡ true) = not_and (is_among p.1 (values m)) (all_differ (values m)) h in
    (λ v. false≢true (sym q.0 ∙ HasValue-is_among m p.1 v), differ_injective m q.1)

pub injective_differ : (m : List (ℕ × ℕ)) → IsInjectiveMap m → all_differ (values m) ≡ true
injective_differ [] h = refl
injective_differ (p ∷ m) h =
    both_true (is_among p.1 (values m)) (all_differ (values m)) (absent (is_among p.1 (values m)) (λ t. h.0 (among_is m p.1 t))) (injective_differ m h.1)

-- back from the names of an injective map
pub shared-model : (from to : List (ℕ × ℕ)) → IsInjectiveMap to → composed from (map_of (turned to)) ≡ same_names from to
shared-model from to h =
    composed-model from (map_of (turned to))
    ∙ composite-agrees from (map_of (turned to)) (flipped to) (λ x.
    sym (value_of-model (map_of (turned to)) x)
    ∙ (value_of-map_of (turned to) (subst (λ xs. all_differ xs ≡ true) (sym (keys-turned to)) (injective_differ to h)) x
    ∙ value_of-model (turned to) x))

-- the two words for lists that rise

above_below : (x : ℕ) (ys : List ℕ) → slots.AllAbove x ys → rising.IsBelowAll x ys
above_below x [] h = tt
above_below x (y ∷ ys) h = (h.0, above_below x ys h.1)

pub ascends : (xs : List ℕ) → slots.IsAscending xs → rising.IsAscending xs
ascends [] h = tt
ascends (x ∷ xs) h = (above_below x xs h.0, ascends xs h.1)

-- what rises is different
pub slots-once : (xs : List ℕ) → slots.IsAscending xs → AllDifferent xs
slots-once xs a = ascending-different xs (ascends xs a)

-- an injective map of the code is full over its keys
pub own_full : (m : List (ℕ × ℕ)) → slots.IsAscending (keys m) → IsInjectiveMap m → IsFullMap (keys m) m
own_full m a h = record { slots = refl; once = slots-once (keys m) a; injective = h }
