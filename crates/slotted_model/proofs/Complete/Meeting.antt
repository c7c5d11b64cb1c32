-- Two classes that lead to one class have full ids that find alike.
use Rattle.std.proofs.Common.{◌≡◌, ℕ, ◌<◌, List, [], length, sym, subst, ◌⊎◌}
use Rattle.std.specs.Prelude.{Contains}
use Rattle.std.specs.Map.{keys_of}
use Rattle.slotted_theory.specs.Nameless.{DTerm}
use Rattle.slotted_model.specs.Applied.{Applied}
use Rattle.slotted_model.specs.Classes.{canonical_slots, IsFull}
use Rattle.slotted_model.specs.Growth.{identity_id}
use Rattle.slotted_model.specs.Correspondence.{IsFullMap, composite, turned, same_names, IsPartialInjection}
use Rattle.slotted_model.specs.Find.{Entry, entry_at, find_class, find_map, find, Linked}
use Rattle.slotted_model.proofs.Represented.Growing.{identity-full}
use Rattle.slotted_model.proofs.Finds.Finding.{Leads, leads, find_map-partial, found_keys, find_map-full}
use Rattle.slotted_model.proofs.Finds.NormalIds.{full-is_valid, found-full}
use Rattle.slotted_model.proofs.Correspondences.PartialInjections.{composite-over, composite-by, composite-partial, turned-partial, turned-by}
use Rattle.slotted_model.proofs.Correspondences.FullMaps.{full-in_order, full-name, full-slot, full-one_name, full-ext, same_names-over}
use Rattle.slotted_model.proofs.Correspondences.FullIds.{slots-different, full_map, full_id}
use Rattle.slotted_model.proofs.Correspondences.Middle.{each_occurs}

-- full ids of two classes that find alike
pub record Meeting (nodes : List DTerm) (found : List Entry) (i j : ℕ) : Type 0 where
  pub left : Applied
  pub right : Applied
  pub left_class : left.0 ≡ i
  pub right_class : right.0 ≡ j
  pub left_full : IsFull nodes left
  pub right_full : IsFull nodes right
  pub alike : find found left ≡ find found right

module _ (nodes : List DTerm) (found : List Entry) (linked : Linked nodes found) (i j : ℕ) (hi : i < length nodes) (hj : j < length nodes) (same : find_class found i ≡ find_class found j) where
  abbrev L : Leads nodes found
  L = leads nodes found linked

  abbrev C : List ℕ
  C = canonical_slots nodes (find_class found i)

  abbrev P : List ℕ
  P = canonical_slots nodes i

  abbrev Q : List ℕ
  Q = canonical_slots nodes j

  -- the slots of i and of j that stand for one slot of the found class
  abbrev A : List (ℕ × ℕ)
  A = composite (turned P (find_map found i)) (find_map found j)

  left-partial : IsPartialInjection C P (find_map found i)
  left-partial = find_map-partial nodes found L i hi

  right-partial : IsPartialInjection C Q (find_map found j)
  right-partial = subst (λ c. IsPartialInjection (canonical_slots nodes c) Q (find_map found j)) (sym same) (find_map-partial nodes found L j hj)

  A-partial : IsPartialInjection P Q A
  A-partial = composite-partial P C Q (turned P (find_map found i)) (find_map found j) (turned-partial C P (find_map found i) left-partial) right-partial

  abbrev K : List ℕ
  K = found_keys nodes found linked i

  right-keys : IsFullMap K (find_map found j)
  right-keys = subst (λ c. IsFullMap (keys_of (entry_at found c).pairs) (find_map found j)) (sym same) (find_map-full nodes found linked j hj)

  -- maps that share just these names find alike
  maps-alike : (m n : List (ℕ × ℕ)) → IsFull nodes (i, m) → IsFull nodes (j, n) → same_names m n ≡ A → find found (i, m) ≡ find found (j, n)
  maps-alike m n fm fn e =
      let φ : List (ℕ × ℕ) = find_map found i in
      let ψ : List (ℕ × ℕ) = find_map found j in
      let left_map : IsFullMap K (composite φ m) = found-full nodes found linked (i, m) (full-is_valid nodes found linked (i, m) fm) in
      let right_map : IsFullMap K (composite ψ n) =
      subst (λ c. IsFullMap (keys_of (entry_at found c).pairs) (composite ψ n)) (sym same) (found-full nodes found linked (j, n) (full-is_valid nodes found linked (j, n) fn)) in
      let maps : composite φ m ≡ composite ψ n = full-ext K (composite φ m) (composite ψ n) left_map right_map
      (λ k x c.
      let u : (s : ℕ) × Contains φ (k, s) × Contains m (s, x) = composite-over φ m k x c in
      let w : (t : ℕ) × Contains ψ (k, t) = full-name K ψ right-keys k (full-slot K φ (find_map-full nodes found linked i hi) k u.0 u.1) in
      let pair : Contains A (u.0, w.0) = composite-by C (turned P φ) ψ right-partial.in_order u.0 k w.0 (turned-by C P φ left-partial k u.0 u.1) w.1 in
      let v : (y : ℕ) × Contains m (u.0, y) × Contains n (w.0, y) = same_names-over m n u.0 w.0 (subst (λ B. Contains B (u.0, w.0)) (sym e) pair) in
      let one : v.0 ≡ x = full-one_name P m (full_map nodes (i, m) fm) u.0 v.0 x v.1 u.2 in
      composite-by Q ψ n (full-in_order Q n (full_map nodes (j, n) fn)) k w.0 x w.1 (subst (λ y. Contains n (w.0, y)) one v.2)) in
      λ k. (same k, maps k)

  pub meeting : Meeting nodes found i j
  meeting =
      let a : Applied = identity_id nodes i in
      let fa : IsFull nodes a = identity-full nodes i hi in
      let r : (n : List (ℕ × ℕ)) × IsFullMap Q n × (same_names a.1 n ≡ A) × ((t x : ℕ) → Contains n (t, x) → ((s : ℕ) × Contains A (s, t)) ⊎ (¬ Contains [] x)) =
      each_occurs P Q a.1 A [] (full_map nodes a fa) (slots-different nodes j) A-partial in
      let fb : IsFull nodes (j, r.0) = full_id nodes j r.0 hj r.1 in
      record { left = a; right = (j, r.0); left_class = λ k. i; right_class = λ k. j; left_full = fa; right_full = fb; alike = maps-alike a.1 r.0 fa fb r.2 }
