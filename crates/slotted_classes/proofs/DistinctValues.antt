-- Maps whose values are all different, and their values in order.
use Rattle.std.proofs.Common.{◌≡◌, ◌<◌, ℕ, suc, List, [], ◌∷◌, length, cond, sym, ◌∙◌, ap, refl, subst, inl, inr}
use Rattle.std.specs.Prelude.{nat_eq, slice_index_or, IsSome}
use Rattle.std.proofs.lemmas.Bool.{cases_lt, lt-ltb, le-ltb, ne_eqb}
use Rattle.slotted_lists.proofs.Members.{In}
use Rattle.slotted_lists.proofs.Maps.{length-values}
use Rattle.slotted_theory.specs.FiniteMaps.{HasValue, IsInjectiveMap}
use Rattle.slotted_model.specs.Ascending.{with_name, ascending}
use Rattle.slotted_model.specs.Applied.{values}
use Rattle.slotted_model.proofs.Data.Sets.{IsAscending-ascending, In-ascending, In-of_ascending}
use Rattle.slotted_model.specs.Correspondence.{identity, AllDifferent}
use Rattle.slotted_model.proofs.Correspondences.PartialInjections.{identity-pair}
use Rattle.slotted_model.proofs.Correspondences.FullMaps.{injective_map-from}
use Rattle.slotted_model.proofs.Correspondences.FullIds.{ascending-different}
use Rattle.slotted_model.proofs.Finds.NormalIds.{keys-identity}
use Rattle.slotted_slots.specs.Ascending.{IsAscending}
use Rattle.slotted_slots.specs.Maps.{keys, value_of}
use Rattle.slotted_languages.proofs.Counting.{In-value as In-key}
use Rattle.slotted_classes.specs.Names.{between}
use Rattle.slotted_classes.proofs.NamePairs.{between-itself}
use Rattle.slotted_classes.proofs.NameMaps.{rising, In-at, at_In, keys_are}

length-with_new : (x : ℕ) (ys : List ℕ) → ¬ In x ys → length (with_name x ys) ≡ suc (length ys)
length-with_new x [] n = refl
length-with_new x (y ∷ ys) n = elim (cases_lt x y) [
  | inl l ↦ ap (λ b. length (cond b (x ∷ y ∷ ys) (cond (nat_eq x y) (y ∷ ys) (y ∷ with_name x ys)))) (lt-ltb x y l)
  | inr g ↦
      ap (λ b. length (cond b (x ∷ y ∷ ys) (cond (nat_eq x y) (y ∷ ys) (y ∷ with_name x ys)))) (le-ltb x y g)
      ∙ (ap (λ b. length (cond b (y ∷ ys) (y ∷ with_name x ys))) (ne_eqb x y (λ e. n (inl e))) ∙ ap suc (length-with_new x ys (λ h. n (inr h))))
]

In-value : (m : List (ℕ × ℕ)) (v : ℕ) → In v (values m) → HasValue m v
In-value [] v h = h
In-value (p ∷ m) v (inl e) = inl e
In-value (p ∷ m) v (inr h) = inr (In-value m v h)

-- none is lost in the order
pub length-ascending_values : (m : List (ℕ × ℕ)) → IsInjectiveMap m → length (ascending (values m)) ≡ length (values m)
length-ascending_values [] h = refl
length-ascending_values (p ∷ m) h =
    length-with_new p.1 (ascending (values m)) (λ k. h.0 (In-value m p.1 (In-of_ascending p.1 (values m) k)))
    ∙ ap suc (length-ascending_values m h.1)

-- as many keys as values, and each value is a key
pub values_keys : (m n : List (ℕ × ℕ)) → IsInjectiveMap m → IsAscending (keys n) → length (values m) ≡ length (keys n) → ((k d : ℕ) → k < length (values m) → IsSome (value_of n (slice_index_or (values m) k d))) → keys n ≡ ascending (values m)
values_keys m n inj up same h =
    let e : length (ascending (values m)) ≡ length (values m) = length-ascending_values m inj in
    keys_are (ascending (values m)) n (rising (ascending (values m)) (IsAscending-ascending (values m))) up (e ∙ same)
    (λ k d l. at_In (λ x. IsSome (value_of n x)) (values m) h (slice_index_or (ascending (values m)) k d) (In-of_ascending (slice_index_or (ascending (values m)) k d) (values m) (In-at (ascending (values m)) k d l)))

-- where the keys are the values in order, each value is a key, and there are as many
pub keys_values : (m n : List (ℕ × ℕ)) → keys n ≡ ascending (values m) → (k d : ℕ) → k < length (values m) → IsSome (value_of n (slice_index_or (values m) k d))
keys_values m n e k d l =
    let x : ℕ = slice_index_or (values m) k d in
    In-key n x (subst (In x) (sym e) (In-ascending x (values m) (In-at (values m) k d l)))

pub keys_as_many : (m n : List (ℕ × ℕ)) → IsInjectiveMap m → keys n ≡ ascending (values m) → length (keys n) ≡ length (values m)
keys_as_many m n inj e = ap length e ∙ length-ascending_values m inj

-- the map between a map and itself
pub between_itself-differs : (m : List (ℕ × ℕ)) → IsInjectiveMap (between m m)
between_itself-differs m =
    let S : List ℕ = ascending (values m) in
    subst IsInjectiveMap (sym (between-itself m))
    (injective_map-from (identity S) (subst AllDifferent (sym (keys-identity S)) (ascending-different S (IsAscending-ascending (values m))))
    (λ s t x c d. (identity-pair S s x c).1 ∙ sym (identity-pair S t x d).1))

length-identity : (S : List ℕ) → length (identity S) ≡ length S
length-identity [] = refl
length-identity (s ∷ S) = ap suc (length-identity S)

pub length-between_itself : (m : List (ℕ × ℕ)) → IsInjectiveMap m → length (between m m) ≡ length m
length-between_itself m h = ap length (between-itself m) ∙ (length-identity (ascending (values m)) ∙ (length-ascending_values m h ∙ length-values m))
