-- Finds: they end at a live class, whichever way the entries lead, and give each of its slots a canonical slot.
use Rattle.std.proofs.Common.{◌≡◌, ℕ, zero, suc, ◌+◌, ◌<◌, ◌≤◌, List, [], ◌∷◌, length, sym, ◌∙◌, ap, refl, subst, inl, inr, arith}
use Rattle.std.specs.Prelude.{◌⊎◌}
use Rattle.std.specs.Map.{keys_of}
use Rattle.std.proofs.lemmas.Bool.{cases_eq}
use Rattle.slotted_theory.specs.Nameless.{DTerm}
use Rattle.slotted_theory.specs.Shape.{free_names}
use Rattle.slotted_model.specs.Ascending.{IsAscending}
use Rattle.slotted_model.specs.Applied.{Applied}
use Rattle.slotted_model.specs.Classes.{canonical_node, canonical_slots}
use Rattle.slotted_model.specs.Correspondence.{IsFullMap, composite, identity, IsPartialInjection}
use Rattle.slotted_model.specs.Find.{Entry, entry_at, IsLive, moments, chased, find_class, find_map, Linked}
use Rattle.slotted_model.proofs.Data.Sets.{IsAscending-ascending}
use Rattle.slotted_model.proofs.Correspondences.PartialInjections.{composite-partial, identity-partial, identity-composite}
use Rattle.slotted_model.proofs.Correspondences.FullMaps.{full-from}
use Rattle.slotted_model.proofs.Correspondences.Joining.{composite-full}
use Rattle.slotted_model.proofs.Data.Ordered.{in_order-once}

pub slots-ascending : (nodes : List DTerm) (i : ℕ) → IsAscending (canonical_slots nodes i)
slots-ascending nodes i = IsAscending-ascending (free_names (canonical_node nodes i).args)

-- each death is before the number of moments
pub died-below : (found : List Entry) (i : ℕ) → i < length found → (entry_at found i).died < moments found
died-below [] i h = absurd (omega arith)
died-below (e ∷ found) zero h = omega arith
died-below (e ∷ found) (suc i) h = let l : (entry_at found i).died < moments found = died-below found i (omega arith) in omega arith

-- what a find rests on: that the entries lead to live classes, over partial injections
pub record Leads (nodes : List DTerm) (found : List Entry) : Type 0 where
  pub entries : length found ≡ length nodes
  pub in_range : (i : ℕ) → i < length nodes → (entry_at found i).class < length nodes
  pub maps : (i : ℕ) → i < length nodes → IsPartialInjection (canonical_slots nodes (entry_at found i).class) (canonical_slots nodes i) (entry_at found i).pairs
  pub live : (i : ℕ) → i < length nodes → IsLive found i → (entry_at found i).pairs ≡ identity (keys_of (entry_at found i).pairs)
  pub ends : (i : ℕ) → i < length nodes → IsLive found (entry_at found i).class ⊎ ((entry_at found i).died < (entry_at found (entry_at found i).class).died)

pub leads : (nodes : List DTerm) (found : List Entry) → Linked nodes found → Leads nodes found
leads nodes found l = record { entries = l.entries; in_range = l.in_range; maps = l.maps; live = l.live; ends = l.ends }

-- so many entries are enough to come from the class to a live one
abbrev Enough : List Entry → ℕ → ℕ → Type 0
Enough found n i = IsLive found i ⊎ (moments found ≤ (entry_at found i).died + n)

module _ (nodes : List DTerm) (found : List Entry) (L : Leads nodes found) where
  -- the pairs of a live class are neutral
  pub live-twice : (i : ℕ) → i < length nodes → IsLive found i → composite (entry_at found i).pairs (entry_at found i).pairs ≡ (entry_at found i).pairs
  live-twice i h l =
      let S : List ℕ = keys_of (entry_at found i).pairs in
      subst (λ (m : List (ℕ × ℕ)). composite m m ≡ m) (sym (L.live i h l)) (identity-composite S S (identity S) (identity-partial S))

  live-chased : (n i : ℕ) → i < length nodes → IsLive found i → chased found n i ≡ (i, (entry_at found i).pairs)
  live-chased zero i h l = refl
  live-chased (suc n) i h l =
      let e : chased found n (entry_at found i).class ≡ (i, (entry_at found i).pairs) = ap (chased found n) l ∙ live-chased n i h l in
      let p : chased found (suc n) i ≡ (i, composite (entry_at found i).pairs (entry_at found i).pairs) = λ k. ((e k).0, composite (e k).1 (entry_at found i).pairs) in
      p ∙ ap (λ (m : List (ℕ × ℕ)). (i, m)) (live-twice i h l)

  died : (i : ℕ) → i < length nodes → (entry_at found i).died < moments found
  died i h = died-below found i (let e : length found ≡ length nodes = L.entries in omega arith)

  next-enough : (n i : ℕ) → i < length nodes → Enough found (suc n) i → (IsLive found i → ⊥) → Enough found n (entry_at found i).class
  next-enough n i h (inl l) d = absurd (d l)
  next-enough n i h (inr b) d = elim (L.ends i h) [
    | inl l ↦ inl l
    | inr r ↦ inr (omega arith)
  ]

  none-enough : (i : ℕ) → i < length nodes → Enough found zero i → (IsLive found i → ⊥) → ⊥
  none-enough i h (inl l) d = d l
  none-enough i h (inr b) d = let r : (entry_at found i).died < moments found = died i h in omega arith

  -- more entries than enough change nothing
  stable : (n m i : ℕ) → i < length nodes → Enough found n i → Enough found m i → chased found n i ≡ chased found m i
  stable zero zero i h a b = refl
  stable zero (suc m) i h a b = elim (cases_eq (entry_at found i).class i) [
    | inl l ↦ sym (live-chased (suc m) i h l)
    | inr d ↦ absurd (none-enough i h a d)
  ]
  stable (suc n) zero i h a b = elim (cases_eq (entry_at found i).class i) [
    | inl l ↦ live-chased (suc n) i h l
    | inr d ↦ absurd (none-enough i h b d)
  ]
  stable (suc n) (suc m) i h a b = elim (cases_eq (entry_at found i).class i) [
    | inl l ↦ live-chased (suc n) i h l ∙ sym (live-chased (suc m) i h l)
    | inr d ↦
        let e : chased found n (entry_at found i).class ≡ chased found m (entry_at found i).class = stable n m (entry_at found i).class (L.in_range i h) (next-enough n i h a d) (next-enough m i h b d) in
        λ k. ((e k).0, composite (e k).1 (entry_at found i).pairs)
  ]

  -- so many entries as there are moments are enough
  pub chased-enough : (n i : ℕ) → i < length nodes → moments found ≤ n → chased found n i ≡ chased found (moments found) i
  chased-enough n i h l = stable n (moments found) i h (inr (omega arith)) (inr (omega arith))

  -- a find follows the entry
  find-follows : (i : ℕ) → i < length nodes → chased found (moments found) i ≡ chased found (suc (moments found)) i
  find-follows i h = stable (moments found) (suc (moments found)) i h (inr (omega arith)) (inr (omega arith))

  pub find_class-follows : (i : ℕ) → i < length nodes → find_class found i ≡ find_class found (entry_at found i).class
  find_class-follows i h = ap (λ (a : Applied). a.0) (find-follows i h)

  pub find_map-follows : (i : ℕ) → i < length nodes → find_map found i ≡ composite (find_map found (entry_at found i).class) (entry_at found i).pairs
  find_map-follows i h = ap (λ (a : Applied). a.1) (find-follows i h)

  -- a live class is found as it is
  pub find_class-live : (i : ℕ) → i < length nodes → IsLive found i → find_class found i ≡ i
  find_class-live i h l = ap (λ (a : Applied). a.0) (live-chased (moments found) i h l)

  pub find_map-live : (i : ℕ) → i < length nodes → IsLive found i → find_map found i ≡ (entry_at found i).pairs
  find_map-live i h l = ap (λ (a : Applied). a.1) (live-chased (moments found) i h l)

  -- what holds of each live class, and of a class if it holds of the one that its entry leads to, holds of each class
  along_from : (P : ℕ → Type 0) → ((i : ℕ) → i < length nodes → IsLive found i → P i) → ((i : ℕ) → i < length nodes → (IsLive found i → ⊥) → P (entry_at found i).class → P i) → (n i : ℕ) → i < length nodes → Enough found n i → P i
  along_from P lives goes zero i h b = elim (cases_eq (entry_at found i).class i) [
    | inl l ↦ lives i h l
    | inr d ↦ absurd (none-enough i h b d)
  ]
  along_from P lives goes (suc n) i h b = elim (cases_eq (entry_at found i).class i) [
    | inl l ↦ lives i h l
    | inr d ↦ goes i h d (along_from P lives goes n (entry_at found i).class (L.in_range i h) (next-enough n i h b d))
  ]

  pub along : (P : ℕ → Type 0) → ((i : ℕ) → i < length nodes → IsLive found i → P i) → ((i : ℕ) → i < length nodes → (IsLive found i → ⊥) → P (entry_at found i).class → P i) → (i : ℕ) → i < length nodes → P i
  along P lives goes i h = along_from P lives goes (moments found) i h (inr (omega arith))

  -- the class that is found
  pub found-in_range : (i : ℕ) → i < length nodes → find_class found i < length nodes
  found-in_range = along (λ i. find_class found i < length nodes)
      (λ i h l. subst (λ c. c < length nodes) (sym (find_class-live i h l)) h)
      (λ i h d p. subst (λ c. c < length nodes) (sym (find_class-follows i h)) p)

  pub found-live : (i : ℕ) → i < length nodes → IsLive found (find_class found i)
  found-live = along (λ i. IsLive found (find_class found i))
      (λ i h l. subst (IsLive found) (sym (find_class-live i h l)) l)
      (λ i h d p. subst (IsLive found) (sym (find_class-follows i h)) p)

  -- its slots are different canonical slots of the class
  pub find_map-partial : (i : ℕ) → i < length nodes → IsPartialInjection (canonical_slots nodes (find_class found i)) (canonical_slots nodes i) (find_map found i)
  find_map-partial = along (λ i. IsPartialInjection (canonical_slots nodes (find_class found i)) (canonical_slots nodes i) (find_map found i))
      (λ i h l.
      let e : (entry_at found i).class ≡ find_class found i = l ∙ sym (find_class-live i h l) in
      subst (λ m. IsPartialInjection (canonical_slots nodes (find_class found i)) (canonical_slots nodes i) m) (sym (find_map-live i h l))
      (subst (λ c. IsPartialInjection (canonical_slots nodes c) (canonical_slots nodes i) (entry_at found i).pairs) e (L.maps i h)))
      (λ i h d p.
      let j : ℕ = (entry_at found i).class in
      subst (λ m. IsPartialInjection (canonical_slots nodes (find_class found i)) (canonical_slots nodes i) m) (sym (find_map-follows i h))
      (subst (λ c. IsPartialInjection (canonical_slots nodes c) (canonical_slots nodes i) (composite (find_map found j) (entry_at found i).pairs)) (sym (find_class-follows i h))
      (composite-partial (canonical_slots nodes (find_class found j)) (canonical_slots nodes j) (canonical_slots nodes i) (find_map found j) (entry_at found i).pairs p (L.maps i h))))

  -- the pairs of a live class are a full map of its slots
  pub live-full : (i : ℕ) → i < length nodes → IsFullMap (keys_of (entry_at found i).pairs) (entry_at found i).pairs
  live-full i h = full-from (keys_of (entry_at found i).pairs) (entry_at found i).pairs refl (in_order-once (canonical_slots nodes (entry_at found i).class) (entry_at found i).pairs (slots-ascending nodes (entry_at found i).class) (L.maps i h).in_order) (L.maps i h).injective

-- a find knows each slot of the class that it finds
module _ (nodes : List DTerm) (found : List Entry) (linked : Linked nodes found) where
  abbrev L : Leads nodes found
  L = leads nodes found linked

  -- the slots of the class that is found
  abbrev pub found_keys : ℕ → List ℕ
  found_keys i = keys_of (entry_at found (find_class found i)).pairs

  pub find_map-full : (i : ℕ) → i < length nodes → IsFullMap (found_keys i) (find_map found i)
  find_map-full = along nodes found L (λ i. IsFullMap (found_keys i) (find_map found i))
      (λ i h l.
      subst (λ c. IsFullMap (keys_of (entry_at found c).pairs) (find_map found i)) (sym (find_class-live nodes found L i h l))
      (subst (λ m. IsFullMap (keys_of (entry_at found i).pairs) m) (sym (find_map-live nodes found L i h l)) (live-full nodes found L i h)))
      (λ i h d p.
      let j : ℕ = (entry_at found i).class in
      subst (λ c. IsFullMap (keys_of (entry_at found c).pairs) (find_map found i)) (sym (find_class-follows nodes found L i h))
      (subst (λ m. IsFullMap (found_keys j) m) (sym (find_map-follows nodes found L i h))
      (composite-full (found_keys j) (canonical_slots nodes j) (canonical_slots nodes i) (find_map found j) (entry_at found i).pairs p (linked.maps i h) (linked.uses i h))))
