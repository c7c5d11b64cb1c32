-- Nodes whose normal forms have one shape: names can be chosen by which the normal forms are the same.
use Rattle.std.proofs.Common.{◌≡◌, ℕ, ◌<◌, List, [], length, sym, ◌∙◌, ap, refl, subst}
use Rattle.std.specs.Prelude.{Contains, map, ◌⊎◌}
use Rattle.std.specs.Map.{keys_of, values_of}
use Rattle.slotted_lists.proofs.Contained.{Contains-map, Contains-of_map}
use Rattle.slotted_lists.proofs.Members.{In, In-Contains, Contains-In, In-of_map, In-map}
use Rattle.slotted_theory.specs.Nameless.{DTerm, moved}
use Rattle.slotted_theory.specs.Renaming.{Bijection}
use Rattle.slotted_theory.specs.FiniteMaps.{value_of, filled}
use Rattle.slotted_theory.specs.Shape.{free_names, shape, SameUpToNames}
use Rattle.slotted_theory.proofs.Bijections.{to-injective}
use Rattle.slotted_theory.proofs.Shapes.{shape_iff}
use Rattle.slotted_model.specs.Ascending.{names}
use Rattle.slotted_model.specs.Applied.{Applied, map_on}
use Rattle.slotted_model.specs.Classes.{canonical_node, canonical_slots, IsFull, Canonical}
use Rattle.slotted_model.specs.Correspondence.{IsFullMap, pairs_on, same_names, IsPartialInjection}
use Rattle.slotted_model.specs.Find.{Entry, Linked}
use Rattle.slotted_model.specs.ProofList.{Equation, ProofEntry, HoldsFrom, node_of, Proved, asserted, Exact}
use Rattle.slotted_model.specs.Normal.{normal, IsOfFoundAlike, IsCongruentByFinds, HasNormalTwin}
use Rattle.slotted_model.proofs.Data.Sets.{In-ascending, In-of_ascending}
use Rattle.slotted_model.proofs.Data.Theory.{moved-agrees, moved-moved, free_names-moved}
use Rattle.slotted_model.proofs.Data.Maps.{filled-pair}
use Rattle.slotted_model.proofs.Represented.Full.{full-ascending}
use Rattle.slotted_model.proofs.Finds.Steps.{one_is_enough, congruent-sound}
use Rattle.slotted_model.proofs.Finds.FindProofs.{full-found_alike, exact-holds}
use Rattle.slotted_model.proofs.Finds.Congruence.{normal-moved, normal_args-names}
use Rattle.slotted_model.proofs.Correspondences.Pairs.{Contains-pairs_on, Contains-of_pairs_on, Contains-value_of, value_of-only, Contains-key, Contains-value, Contains-of_key, Contains-of_value}
use Rattle.slotted_model.proofs.Correspondences.PartialInjections.{pairs_on-in_order}
use Rattle.slotted_model.proofs.Correspondences.FullMaps.{same_names-over}
use Rattle.slotted_model.proofs.Correspondences.FullIds.{slots-different, full_map, full_id}
use Rattle.slotted_model.proofs.Correspondences.Middle.{each_occurs}

-- the names of a normal form are canonical slots
pub normal-slots : (nodes : List DTerm) → Canonical nodes → (found : List Entry) (i : ℕ) → i < length nodes → (z : ℕ) → Contains (names (normal found (canonical_node nodes i))) z → Contains (canonical_slots nodes i) z
normal-slots nodes can found i h z c =
    let d : DTerm = canonical_node nodes i in
    let n : In z (free_names (normal found d).args) = In-of_ascending z (free_names (normal found d).args) (In-Contains (names (normal found d)) z c) in
    Contains-In (canonical_slots nodes i) z (In-ascending z (free_names d.args) (normal_args-names (λ a. (a.0 < i) × IsFull nodes a) found d.args (can.children i h) z n))

Contains-names : (d : DTerm) (z : ℕ) → In z (free_names d.args) → Contains (names d) z
Contains-names d z h = Contains-In (names d) z (In-ascending z (free_names d.args) h)

pub names-In : (d : DTerm) (z : ℕ) → Contains (names d) z → In z (free_names d.args)
names-In d z c = In-of_ascending z (free_names d.args) (In-Contains (names d) z c)

module _ (nodes : List DTerm) (can : Canonical nodes) (found : List Entry) (a : Applied) (full : IsFull nodes a) (j : ℕ) (hj : j < length nodes) (π : Bijection) where
  abbrev N : DTerm
  N = normal found (canonical_node nodes a.0)

  abbrev M : DTerm
  M = normal found (canonical_node nodes j)

  abbrev P : List ℕ
  P = canonical_slots nodes a.0

  abbrev Q : List ℕ
  Q = canonical_slots nodes j

  -- each name of the left normal form with the one that it becomes
  abbrev W : List (ℕ × ℕ)
  W = map_on π.to (names N)

  abbrev A : List (ℕ × ℕ)
  A = pairs_on P (value_of W)

  W-pair : (s t : ℕ) → Contains W (s, t) → Contains (names N) s × (π.to s ≡ t)
  W-pair s t c =
      let r : (k : ℕ) × Contains (names N) k × (◌≡◌ {A = ℕ × ℕ} (k, π.to k) (s, t)) = Contains-of_map (λ k. (k, π.to k)) (names N) (s, t) c in
      let e : r.0 ≡ s = ap (λ p. p.0) r.2 in
      (subst (Contains (names N)) e r.1, ap π.to (sym e) ∙ ap (λ p. p.1) r.2)

  A-pair : (s t : ℕ) → Contains A (s, t) → Contains (names N) s × (π.to s ≡ t)
  A-pair s t c = W-pair s t (Contains-value_of W s t (Contains-of_pairs_on P (value_of W) s t c).1)

  A-by : (s : ℕ) → Contains (names N) s → Contains A (s, π.to s)
  A-by s c = Contains-pairs_on P (value_of W) s (π.to s) (normal-slots nodes can found a.0 full.in_range s c)
      (value_of-only W s (π.to s) (Contains-map (λ k. (k, π.to k)) (names N) s c) (λ v d. sym (W-pair s v d).1))

  module _ (e : moved π.to N ≡ M) where
    becomes : (s : ℕ) → Contains (names N) s → Contains (names M) (π.to s)
    becomes s c =
        let i : In (π.to s) (map π.to (free_names N.args)) = In-map π.to (free_names N.args) s (names-In N s c) in
        Contains-names M (π.to s) (subst (λ (d : DTerm). In (π.to s) (free_names d.args)) e (subst (In (π.to s)) (sym (free_names-moved π.to N.args)) i))

    comes_from : (t : ℕ) → Contains (names M) t → (s : ℕ) × Contains (names N) s × (t ≡ π.to s)
    comes_from t c =
        let i : In t (free_names (moved π.to N).args) = subst (λ (d : DTerm). In t (free_names d.args)) (sym e) (names-In M t c) in
        let r : (s : ℕ) × In s (free_names N.args) × (t ≡ π.to s) = In-of_map π.to (free_names N.args) t (subst (In t) (free_names-moved π.to N.args) i) in
        (r.0, Contains-names N r.0 r.1, r.2)

    A-partial : IsPartialInjection P Q A
    A-partial = record {
      in_order = pairs_on-in_order P (value_of W);
      within = λ s t c. let r = A-pair s t c in normal-slots nodes can found j hj t (subst (Contains (names M)) r.1 (becomes s r.0));
      injective = λ s s' t c d. to-injective π s s' ((A-pair s t c).1 ∙ sym (A-pair s' t d).1);
    }

    pub twin : (b : Applied) × (b.0 ≡ j) × HasNormalTwin nodes found a b
    twin =
        let r : (n : List (ℕ × ℕ)) × IsFullMap Q n × (same_names a.1 n ≡ A) × ((t x : ℕ) → Contains n (t, x) → ((s : ℕ) × Contains A (s, t)) ⊎ (¬ Contains [] x)) =
        each_occurs P Q a.1 A [] (full_map nodes a full) (slots-different nodes j) A-partial in
        let n : List (ℕ × ℕ) = r.0 in
        let b : Applied = (j, n) in
        let fb : IsFull nodes b = full_id nodes j n hj r.1 in
        let agree : (x : ℕ) → In x (free_names N.args) → filled a.1 x ≡ filled n (π.to x) =
        λ x h.
        let s = same_names-over a.1 n x (π.to x) (subst (λ B. Contains B (x, π.to x)) (sym r.2) (A-by x (Contains-names N x h))) in
        filled-pair a.1 x s.0 (full-ascending nodes a full) (In-Contains a.1 (x, s.0) s.1) ∙ sym (filled-pair n (π.to x) s.0 (full-ascending nodes b fb) (In-Contains n (π.to x, s.0) s.2)) in
        let same : normal found (node_of nodes a) ≡ normal found (node_of nodes b) =
        normal-moved (λ x. (x.0 < a.0) × IsFull nodes x) found (filled a.1) (canonical_node nodes a.0) (can.children a.0 full.in_range)
        ∙ (moved-agrees (filled a.1) (λ x. filled n (π.to x)) N agree
        ∙ (sym (moved-moved (filled n) π.to N)
        ∙ (ap (moved (filled n)) e
        ∙ sym (normal-moved (λ x. (x.0 < j) × IsFull nodes x) found (filled n) (canonical_node nodes j) (can.children j hj))))) in (
          b,
          refl,
          record {
            full = fb;
            same = same;
            left_names = λ s. (
              λ c. let k = Contains-of_key A s (subst (λ B. Contains (keys_of B) s) r.2 c) in (A-pair s k.0 k.1).0,
              λ c. subst (λ B. Contains (keys_of B) s) (sym r.2) (Contains-key A s (π.to s) (A-by s c)),
            );
            right_names = λ t. (
              λ c.
                  let k = Contains-of_value A t (subst (λ B. Contains (values_of B) t) r.2 c) in
                  let p = A-pair k.0 t k.1 in
                  subst (Contains (names M)) p.1 (becomes k.0 p.0),
              λ c.
                  let k = comes_from t c in
                  subst (λ B. Contains (values_of B) t) (sym r.2) (subst (Contains (values_of A)) (sym k.2) (Contains-value A k.0 (π.to k.0) (A-by k.0 k.1))),
            );
          },
        )

-- where the normal forms of two canonical nodes have one shape, each full id of the one class has a twin of the other
pub shape-twin : (nodes : List DTerm) → Canonical nodes → (found : List Entry) (a : Applied) → IsFull nodes a → (j : ℕ) → j < length nodes → shape (normal found (canonical_node nodes a.0)) ≡ shape (normal found (canonical_node nodes j)) → (b : Applied) × (b.0 ≡ j) × HasNormalTwin nodes found a b
shape-twin nodes can found a full j hj e =
    let r : SameUpToNames (normal found (canonical_node nodes a.0)) (normal found (canonical_node nodes j)) = (shape_iff (normal found (canonical_node nodes a.0)) (normal found (canonical_node nodes j))).0 e in
    twin nodes can found a full j hj r.0 r.1

-- an equation that is congruent by finds holds from the asserted list
pub by_finds-holds : (nodes : List DTerm) → Canonical nodes → (found : List Entry) (proofs : List ProofEntry) → Linked nodes found → Proved nodes proofs → Exact nodes found proofs → (e : Equation) → IsCongruentByFinds nodes found e → HoldsFrom (asserted nodes proofs) nodes e
by_finds-holds nodes can found proofs linked proved exact e c =
    congruent-sound (asserted nodes proofs) nodes can e c.parts c.congruent
    (λ q h.
    let r : IsOfFoundAlike nodes found q = c.alike q h in
    one_is_enough (asserted nodes proofs) nodes can q r.left r.right r.left_full r.right_full r.equation
    (full-found_alike (asserted nodes proofs) nodes found linked (exact-holds nodes can found proofs proved exact) r.left r.right r.left_full r.right_full r.alike))
