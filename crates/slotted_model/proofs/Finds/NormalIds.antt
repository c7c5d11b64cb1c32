-- Applied ids in normal form.
use Rattle.std.proofs.Common.{◌≡◌, ℕ, ◌<◌, List, [], ◌∷◌, length, sym, ◌∙◌, ap, refl, subst}
use Rattle.std.specs.Prelude.{Contains, option_map}
use Rattle.std.specs.List.{cons_option}
use Rattle.std.specs.Map.{keys_of, values_of}
use Rattle.slotted_lists.proofs.Members.{In-Contains, Contains-In}
use Rattle.slotted_lists.proofs.Maps.{value_of-with_values, cons_option-with_values}
use Rattle.slotted_theory.specs.Nameless.{DTerm}
use Rattle.slotted_theory.specs.FiniteMaps.{value_of, with_values}
use Rattle.slotted_model.specs.Ascending.{IsAscending, ascending}
use Rattle.slotted_model.specs.Applied.{Applied, keys, values, renamed_id}
use Rattle.slotted_model.specs.Classes.{canonical_slots, IsFull}
use Rattle.slotted_model.specs.Correspondence.{IsFullMap, composite, identity}
use Rattle.slotted_model.specs.Filling.{IsValid, IsFilling}
use Rattle.slotted_model.specs.Find.{Entry, entry_at, IsLive, find_class, find_map, used_slots, find, Linked}
use Rattle.slotted_model.proofs.Data.Sets.{IsAscending-ascending, In-ascending, In-of_ascending, same_members}
use Rattle.slotted_model.proofs.Represented.Full.{full-ascending}
use Rattle.slotted_model.proofs.Correspondences.Pairs.{Contains-value, Contains-of_key, Contains-of_value}
use Rattle.slotted_model.proofs.Correspondences.PartialInjections.{key_in_order, composite-over, composite-by, identity-composite}
use Rattle.slotted_model.proofs.Correspondences.FullMaps.{full-partial, full-in_order, full-ext}
use Rattle.slotted_model.proofs.Correspondences.FullIds.{ascending-different}
use Rattle.slotted_model.proofs.Correspondences.Joining.{composite-full}
use Rattle.slotted_model.proofs.Data.Ordered.{in_order-ascending}
use Rattle.slotted_model.proofs.Finds.Finding.{slots-ascending, Leads, leads, find_class-live, find_map-live, found-in_range, found-live, find_map-partial, found_keys, find_map-full}

pub keys-identity : (S : List ℕ) → keys_of (identity S) ≡ S
keys-identity [] = refl
keys-identity (s ∷ S) = ap (λ L. s ∷ L) (keys-identity S)

pub values-identity : (S : List ℕ) → values_of (identity S) ≡ S
values-identity [] = refl
values-identity (s ∷ S) = ap (λ L. s ∷ L) (values-identity S)

-- an ascending list is left as it is
ascending-ascending : (S : List ℕ) → IsAscending S → ascending S ≡ S
ascending-ascending S a = same_members (ascending S) S (IsAscending-ascending S) a (λ z. (In-of_ascending z S, In-ascending z S))

pub Contains-ascending : (S : List ℕ) (s : ℕ) → Contains S s → Contains (ascending S) s
Contains-ascending S s c = Contains-In (ascending S) s (In-ascending s S (In-Contains S s c))

pub Contains-of_ascending : (S : List ℕ) (s : ℕ) → Contains (ascending S) s → Contains S s
Contains-of_ascending S s c = Contains-In S s (In-of_ascending s S (In-Contains (ascending S) s c))

pub composite-with_values : (f : ℕ → ℕ) (A m : List (ℕ × ℕ)) → composite A (with_values f m) ≡ with_values f (composite A m)
composite-with_values f [] m = refl
composite-with_values f (p ∷ A) m =
    (λ i. cons_option (option_map (λ u. (p.0, u)) (value_of-with_values f m p.1 i)) (composite-with_values f A m i))
    ∙ cons_option-with_values f p.0 (value_of m p.1) (composite A m)

-- the slots that a find uses
pub used-by : (found : List Entry) (i s : ℕ) → Contains (values_of (find_map found i)) s → Contains (used_slots found i) s
used-by found i s c = Contains-ascending (values_of (find_map found i)) s c

pub of_used : (found : List Entry) (i s : ℕ) → Contains (used_slots found i) s → Contains (values_of (find_map found i)) s
of_used found i s c = Contains-of_ascending (values_of (find_map found i)) s c

module _ (nodes : List DTerm) (found : List Entry) (linked : Linked nodes found) where
  abbrev L : Leads nodes found
  L = leads nodes found linked

  keys-ascending : (i : ℕ) → i < length nodes → IsAscending (keys_of (entry_at found i).pairs)
  keys-ascending i h = in_order-ascending (canonical_slots nodes (entry_at found i).class) (entry_at found i).pairs (slots-ascending nodes (entry_at found i).class) (linked.maps i h).in_order

  -- the slots of a live class
  pub used-live : (i : ℕ) → i < length nodes → IsLive found i → used_slots found i ≡ keys_of (entry_at found i).pairs
  used-live i h l =
      let S : List ℕ = keys_of (entry_at found i).pairs in
      ap (λ (m : List (ℕ × ℕ)). ascending (values_of m)) (find_map-live nodes found L i h l ∙ linked.live i h l) ∙ (ap ascending (values-identity S) ∙ ascending-ascending S (keys-ascending i h))

  module _ (a : Applied) (v : IsValid (used_slots found) nodes a) where
    pub valid-map : IsFullMap (keys a.1) a.1
    valid-map = record { slots = refl; once = ascending-different (keys a.1) v.ascending; injective = v.injective }

    pub found-full : IsFullMap (found_keys nodes found linked a.0) (find found a).1
    found-full = composite-full (found_keys nodes found linked a.0) (keys a.1) (values a.1) (find_map found a.0) a.1 (find_map-full nodes found linked a.0 v.in_range)
        (full-partial (keys a.1) (values a.1) a.1 valid-map (λ s x c. Contains-value a.1 s x c))
        (λ t c. v.has_slots t (used-by found a.0 t c))

    pub found-class_live : IsLive found (find found a).0
    found-class_live = found-live nodes found L a.0 v.in_range

    pub found-slots : keys (find found a).1 ≡ used_slots found (find found a).0
    found-slots = found-full.slots ∙ sym (used-live (find found a).0 (found-in_range nodes found L a.0 v.in_range) found-class_live)

    pub found-valid : IsValid (used_slots found) nodes (find found a)
    found-valid =
        let c : ℕ = find_class found a.0 in
        let h : c < length nodes = found-in_range nodes found L a.0 v.in_range in record {
          in_range = h;
          ascending = subst IsAscending (sym found-full.slots) (keys-ascending c h);
          injective = found-full.injective;
          has_slots = λ s d. subst (λ S. Contains S s) (sym found-slots) d;
          within = λ s d.
              let r = Contains-of_key (find found a).1 s d in
              let k = composite-over (find_map found a.0) a.1 s r.0 r.1 in
              key_in_order (canonical_slots nodes c) (find_map found a.0) (find_map-partial nodes found L a.0 v.in_range).in_order s k.0 k.1;
        }

    -- what is found is found as it is
    pub found-again : find found (find found a) ≡ find found a
    found-again =
        let c : ℕ = find_class found a.0 in
        let h : c < length nodes = found-in_range nodes found L a.0 v.in_range in
        let S : List ℕ = keys_of (entry_at found c).pairs in
        let e : find_map found c ≡ identity S = find_map-live nodes found L c h found-class_live ∙ linked.live c h found-class_live in
        let n : composite (find_map found c) (find found a).1 ≡ (find found a).1 =
        ap (λ m. composite m (find found a).1) e ∙ identity-composite S (values (find found a).1) (find found a).1 (full-partial S (values (find found a).1) (find found a).1 found-full (λ s x d. Contains-value (find found a).1 s x d)) in
        λ i. (find_class-live nodes found L c h found-class_live i, n i)

  -- ids of one class with the same names at the slots that are used find alike
  pub found-same : (a b : Applied) → IsValid (used_slots found) nodes a → IsValid (used_slots found) nodes b → a.0 ≡ b.0 → ((s x : ℕ) → Contains (used_slots found a.0) s → Contains a.1 (s, x) → Contains b.1 (s, x)) → find found a ≡ find found b
  found-same a b v w e same =
      let K : List ℕ = found_keys nodes found linked a.0 in
      let full_b : IsFullMap K (composite (find_map found a.0) b.1) = subst (λ i. IsFullMap (found_keys nodes found linked i) (composite (find_map found i) b.1)) (sym e) (found-full b w) in
      let m : composite (find_map found a.0) a.1 ≡ composite (find_map found a.0) b.1 = full-ext K (composite (find_map found a.0) a.1) (composite (find_map found a.0) b.1) (found-full a v) full_b
      (λ s x c.
      let r = composite-over (find_map found a.0) a.1 s x c in
      composite-by (keys b.1) (find_map found a.0) b.1 (full-in_order (keys b.1) b.1 (valid-map b w)) s r.0 x r.1
      (same r.0 x (used-by found a.0 r.0 (Contains-value (find_map found a.0) s r.0 r.1)) r.2)) in
      (λ i. (find_class found a.0, m i)) ∙ (λ i. (find_class found (e i), composite (find_map found (e i)) b.1))

  -- a full id is valid
  pub full-is_valid : (a : Applied) → IsFull nodes a → IsValid (used_slots found) nodes a
  full-is_valid a full = record {
    in_range = full.in_range;
    ascending = full-ascending nodes a full;
    injective = full.injective;
    has_slots = λ s c.
        let r = Contains-of_value (find_map found a.0) s (of_used found a.0 s c) in
        subst (λ S. Contains S s) (sym full.slots) ((find_map-partial nodes found L a.0 full.in_range).within r.0 s r.1);
    within = λ s c. subst (λ S. Contains S s) full.slots c;
  }

  -- a filling of an id finds as the id does
  pub filling-found : (given : List ℕ) (a b : Applied) → IsValid (used_slots found) nodes a → IsFilling nodes given a b → find found a ≡ find found b
  filling-found given a b v f = found-same a b v (full-is_valid b f.full) (sym f.class) (λ s x c d. f.keeps s x d)

-- a find moves with the names
pub found-renamed : (found : List Entry) (f : ℕ → ℕ) (a : Applied) → find found (renamed_id f a) ≡ renamed_id f (find found a)
found-renamed found f a = λ i. (find_class found a.0, composite-with_values f (find_map found a.0) a.1 i)

-- and has only names of the id
pub found-name : (found : List Entry) (a : Applied) (s x : ℕ) → Contains (find found a).1 (s, x) → (t : ℕ) × Contains (find_map found a.0) (s, t) × Contains a.1 (t, x)
found-name found a s x c = composite-over (find_map found a.0) a.1 s x c
