-- Fillings keep equations: the pairs of slots with one name are those of the ids that were filled.
use Rattle.std.proofs.Common.{◌≡◌, ◌⊎◌, ℕ, List, [], ◌∷◌, Bool, true, false, cond, sym, ◌∙◌, ap, refl, subst, inl, inr}
use Rattle.std.specs.Prelude.{Contains, filter}
use Rattle.std.proofs.lemmas.Bool.{false≢true}
use Rattle.slotted_lists.proofs.Members.{In-Contains, Contains-In}
use Rattle.slotted_theory.specs.Nameless.{DTerm}
use Rattle.slotted_theory.specs.FiniteMaps.{value_of}
use Rattle.slotted_model.specs.Ascending.{IsBelowAll, IsAscending}
use Rattle.slotted_model.specs.Applied.{Applied, keys, values}
use Rattle.slotted_model.specs.Classes.{canonical_slots}
use Rattle.slotted_model.specs.Correspondence.{IsFullMap, pairs_on, identity, same_names, has_slot}
use Rattle.slotted_model.specs.Filling.{IsValid, IsFilling}
use Rattle.slotted_model.specs.ProofList.{equation_of}
use Rattle.slotted_model.proofs.Data.Sets.{same_members}
use Rattle.slotted_model.proofs.Rebuilding.Refiling.{filter-keeps, filter-from}
use Rattle.slotted_model.proofs.Rebuilding.Touching.{has_slot-cases}
use Rattle.slotted_model.proofs.Represented.Fillings.{slots-ascending}
use Rattle.slotted_model.proofs.Correspondences.Pairs.{Contains-of_key, Contains-value}
use Rattle.slotted_model.proofs.Correspondences.Listing.{listed-in_order}
use Rattle.slotted_model.proofs.Correspondences.PartialInjections.{in_order-ext, composite-in_order, identity-composite}
use Rattle.slotted_model.proofs.Correspondences.FullMaps.{full-one_name, same_names-over, same_names-by, same_names-in_order, same_names-partial}
use Rattle.slotted_model.proofs.Correspondences.FullIds.{ascending-different, full_map}

-- a filter of an ascending list ascends
below-cond : (b : Bool) (x y : ℕ) (K : List ℕ) → IsBelowAll x (y ∷ K) → IsBelowAll x (cond b (y ∷ K) K)
below-cond true x y K h = h
below-cond false x y K h = h.1

below-filter : (f : ℕ → Bool) (x : ℕ) (P : List ℕ) → IsBelowAll x P → IsBelowAll x (filter f P)
below-filter f x [] h = tt
below-filter f x (y ∷ P) h = below-cond (f y) x y (filter f P) (h.0, below-filter f x P h.1)

ascending-cond : (b : Bool) (x : ℕ) (K : List ℕ) → IsAscending (x ∷ K) → IsAscending (cond b (x ∷ K) K)
ascending-cond true x K h = h
ascending-cond false x K h = h.1

ascending-filter : (f : ℕ → Bool) (P : List ℕ) → IsAscending P → IsAscending (filter f P)
ascending-filter f [] h = tt
ascending-filter f (x ∷ P) h = ascending-cond (f x) x (filter f P) (below-filter f x P h.0, ascending-filter f P h.1)

-- some slots of an ascending list, ascending, are a filter of it
narrowed : (S P : List ℕ) → IsAscending S → IsAscending P → ((s : ℕ) → Contains S s → Contains P s) → S ≡ filter (has_slot S) P
narrowed S P a b within = same_members S (filter (has_slot S) P) a (ascending-filter (has_slot S) P b) (λ z. (
  λ h.
      let c : Contains S z = Contains-In S z h in
      In-Contains (filter (has_slot S) P) z (filter-keeps (has_slot S) P z (within z c) (elim (has_slot-cases S z) [
        | inl k ↦ k.1
        | inr k ↦ absurd (k.0 c)
      ])),
  λ h. elim (has_slot-cases S z) [
    | inl k ↦ In-Contains S z k.0
    | inr k ↦ absurd (false≢true (sym k.1 ∙ (filter-from (has_slot S) P z (Contains-In (filter (has_slot S) P) z h)).1))
  ],
))

pub keys-identity : (S : List ℕ) → keys (identity S) ≡ S
keys-identity [] = refl
keys-identity (s ∷ S) = ap (λ K. s ∷ K) (keys-identity S)

identity-wider : (S P : List ℕ) → IsAscending S → IsAscending P → ((s : ℕ) → Contains S s → Contains P s) → pairs_on P (value_of (identity S)) ≡ identity S
identity-wider S P a b within = listed-in_order P (identity S) (ascending-different P b) (keys-identity S ∙ (narrowed S P a b within ∙ ap (λ K. filter (has_slot K) P) (sym (keys-identity S))))

-- whether a slot has a name is decided
pub named : (m : List (ℕ × ℕ)) (s : ℕ) → ((x : ℕ) × Contains m (s, x)) ⊎ (¬ Contains (keys m) s)
named m s = elim (has_slot-cases (keys m) s) [
  | inl h ↦ inl (Contains-of_key m s h.0)
  | inr h ↦ inr h.0
]

-- a filled with names that b has not, and b with names that the filled a has not, have the equation of a and b
module _ (nodes : List DTerm) (lefts rights : ℕ → List ℕ) (a b c d : Applied) (left : IsValid lefts nodes a) (right : IsValid rights nodes b) (fills_left : IsFilling nodes (values b.1) a c) (fills_right : IsFilling nodes (values c.1) b d) where
  own_left : IsFullMap (keys a.1) a.1
  own_left = record { slots = refl; once = ascending-different (keys a.1) left.ascending; injective = left.injective }

  own_right : IsFullMap (keys b.1) b.1
  own_right = record { slots = refl; once = ascending-different (keys b.1) right.ascending; injective = right.injective }

  whole_left : IsFullMap (canonical_slots nodes c.0) c.1
  whole_left = full_map nodes c fills_left.full

  whole_right : IsFullMap (canonical_slots nodes d.0) d.1
  whole_right = full_map nodes d fills_right.full

  more-pairs : (s t : ℕ) → Contains (same_names a.1 b.1) (s, t) → Contains (same_names c.1 d.1) (s, t)
  more-pairs s t h =
      let r = same_names-over a.1 b.1 s t h in
      same_names-by (canonical_slots nodes d.0) c.1 d.1 whole_right s t r.0 (fills_left.keeps s r.0 r.1) (fills_right.keeps t r.0 r.2)

  no-more-pairs : (s t : ℕ) → Contains (same_names c.1 d.1) (s, t) → Contains (same_names a.1 b.1) (s, t)
  no-more-pairs s t h =
      let r = same_names-over c.1 d.1 s t h in
      let x : ℕ = r.0 in
      elim (named b.1 t) [
        | inr k ↦ absurd (fills_right.fresh t x r.2 k (Contains-value c.1 s x r.1))
        | inl q ↦
            let e : x ≡ q.0 = full-one_name (canonical_slots nodes d.0) d.1 whole_right t x q.0 r.2 (fills_right.keeps t q.0 q.1) in
            let u : Contains b.1 (t, x) = subst (λ y. Contains b.1 (t, y)) (sym e) q.1 in
            elim (named a.1 s) [
              | inr k ↦ absurd (fills_left.fresh s x r.1 k (Contains-value b.1 t x u))
              | inl p ↦
                  let f : x ≡ p.0 = full-one_name (canonical_slots nodes c.0) c.1 whole_left s x p.0 r.1 (fills_left.keeps s p.0 p.1) in
                  same_names-by (keys b.1) a.1 b.1 own_right s t x (subst (λ y. Contains a.1 (s, y)) (sym f) p.1) u
            ]
      ]

  pairs-in_order : pairs_on (canonical_slots nodes c.0) (value_of (same_names a.1 b.1)) ≡ same_names a.1 b.1
  pairs-in_order =
      let P : List ℕ = canonical_slots nodes c.0 in
      let A : List (ℕ × ℕ) = same_names a.1 b.1 in
      let within : (s : ℕ) → Contains (keys a.1) s → Contains P s = λ s k. subst (λ i. Contains (canonical_slots nodes i) s) (sym fills_left.class) (left.within s k) in
      subst (λ (B : List (ℕ × ℕ)). pairs_on P (value_of B) ≡ B) (identity-composite (keys a.1) (keys b.1) A (same_names-partial (keys a.1) (keys b.1) a.1 b.1 own_left own_right))
      (composite-in_order P (identity (keys a.1)) A (identity-wider (keys a.1) P left.ascending (slots-ascending nodes c.0) within))

  pub filled-equation : equation_of c d ≡ equation_of a b
  filled-equation =
      let e : same_names c.1 d.1 ≡ same_names a.1 b.1 =
      in_order-ext (canonical_slots nodes c.0) (same_names c.1 d.1) (same_names a.1 b.1) (same_names-in_order (canonical_slots nodes c.0) c.1 d.1 whole_left) pairs-in_order no-more-pairs more-pairs in
      λ i. record { left = fills_left.class i; right = fills_right.class i; pairs = e i }
