-- Slots of two classes that have one number: they are paired, and the sides that share names there are twins.
use Rattle.std.proofs.Common.{◌≡◌, ◌↔◌, ◌<◌, ℕ, List, length, refl, ap, ◌∙◌, sym, subst}
use Rattle.std.specs.Prelude.{Contains, map}
use Rattle.slotted_lists.proofs.Members.{In, In-of_map, In-Contains, Contains-In}
use Rattle.slotted_theory.specs.Nameless.{DTerm}
use Rattle.slotted_theory.specs.FiniteMaps.{filled}
use Rattle.slotted_theory.specs.Shape.{free_names, number_in}
use Rattle.slotted_theory.specs.Shape as theory
use Rattle.slotted_theory.proofs.Filled.{filled-injective}
use Rattle.slotted_theory.proofs.Shapes.{number_in-map, number_in-injective}
use Rattle.slotted_nodes.specs.Form.{Form}
use Rattle.slotted_languages.specs.NodeTerm.{nameless_node}
use Rattle.slotted_languages.proofs.Shapes.{keys-shape}
use Rattle.slotted_languages.specs.Shape.{shape}
use Rattle.slotted_model.specs.Applied.{Applied, keys}
use Rattle.slotted_model.specs.Ascending.{IsAscending, names}
use Rattle.slotted_model.specs.Classes.{Canonical, IsFull, canonical_slots}
use Rattle.slotted_model.specs.Correspondence.{IsFullMap, IsPartialInjection, identity, same_names, turned}
use Rattle.slotted_model.specs.Normal.{HasNormalTwin, HasOneNumber}
use Rattle.slotted_model.specs.ProofList.{equation_of}
use Rattle.slotted_model.specs.State.{Row, normal_node}
use Rattle.slotted_model.proofs.Correspondences.FullIds.{ascending-different, full_map, slots-different}
use Rattle.slotted_model.proofs.Correspondences.FullMaps.{full-from, full-partial, same_names-by, same_names-over, same_names-partial}
use Rattle.slotted_model.proofs.Correspondences.Pairs.{Contains-value, Contains-of_value}
use Rattle.slotted_model.proofs.Correspondences.PartialInjections.{composite-by, composite-over, composite-partial, identity-by, identity-pair, in_order-ext, turned-by, turned-pair, turned-partial}
use Rattle.slotted_model.proofs.Data.Maps.{filled-pair}
use Rattle.slotted_model.proofs.Finds.NormalIds.{keys-identity}
use Rattle.slotted_model.proofs.Data.Sets.{In-of_ascending}
use Rattle.slotted_model.proofs.Data.Theory.{free_names-moved}
use Rattle.slotted_model.proofs.Finds.Twins.{normal-slots, shape-twin}
use Rattle.slotted_model.proofs.Finds.TwinNumbers.{twins-move, twins-pair}
use Rattle.slotted_proofs.proofs.Bridges.{ascends}
use Rattle.slotted_classes.specs.Kept.{Kept, nodes_of, entries_of}
use Rattle.slotted_hashcons.specs.FoundNodes.{finds_of, IsFoundNode}
use Rattle.slotted_hashcons.specs.Sides.{number_partners}

-- the map of a class's slots is full over its numbers
names-ascend : (k : Kept) (i : ℕ) (f : Form) (m : List (ℕ × ℕ)) → IsFoundNode k i f m → IsAscending (keys m)
names-ascend k i f m h = subst IsAscending (sym h.numbers) (ascends (keys (shape f).1) (keys-shape f))

names-full : (k : Kept) (i : ℕ) (f : Form) (m : List (ℕ × ℕ)) → IsFoundNode k i f m → IsFullMap (keys m) m
names-full k i f m h = record { slots = refl; once = ascending-different (keys m) (names-ascend k i f m h); injective = h.different }

-- a slot with a number is one of the normal form, whose names are those of the shape with slots put in
slot-stands : (k : Kept) (i : ℕ) (f : Form) (m : List (ℕ × ℕ)) → IsFoundNode k i f m → (x s : ℕ) → Contains m (x, s) → Contains (names (normal_node (finds_of k) i)) s
slot-stands k i f m h x s c = (h.slots s).0 (Contains-value m x s c)

names-moved : (k : Kept) (i : ℕ) (f : Form) (m : List (ℕ × ℕ)) → IsFoundNode k i f m → free_names (normal_node (finds_of k) i).args ≡ map (filled m) (free_names (nameless_node f).args)
names-moved k i f m h = ap (λ (d : DTerm). free_names d.args) (sym h.back) ∙ free_names-moved (filled m) (nameless_node f).args

slot-filled : (k : Kept) (i : ℕ) (f : Form) (m : List (ℕ × ℕ)) → IsFoundNode k i f m → (x s : ℕ) → Contains m (x, s) → filled m x ≡ s
slot-filled k i f m h x s c = filled-pair m x s (names-ascend k i f m h) (In-Contains m (x, s) c)

-- the number of a slot in the normal form is that of its name in the shape
slot-number : (k : Kept) (i : ℕ) (f : Form) (m : List (ℕ × ℕ)) → IsFoundNode k i f m → (x s : ℕ) → Contains m (x, s) →
    number_in (free_names (normal_node (finds_of k) i).args) s ≡ number_in (free_names (nameless_node f).args) x
slot-number k i f m h x s c =
    let ys : List ℕ = free_names (nameless_node f).args in
    let d : DTerm = normal_node (finds_of k) i in
    let there : In s (map (filled m) ys) = subst (In s) (names-moved k i f m h) (In-of_ascending s (free_names d.args) (In-Contains (names d) s (slot-stands k i f m h x s c))) in
    let r : (y : ℕ) × In y ys × (s ≡ filled m y) = In-of_map (filled m) ys s there in
    let same : x ≡ r.0 = filled-injective m h.different x r.0 (slot-filled k i f m h x s c ∙ r.2) in
    ap (λ zs. number_in zs s) (names-moved k i f m h)
    ∙ (ap (number_in (map (filled m) ys)) (sym (slot-filled k i f m h x s c))
    ∙ number_in-map (filled m) (filled-injective m h.different) ys x (Contains-In ys x (subst (λ y. In y ys) (sym same) r.1)))

module _ (k : Kept) (i j : ℕ) (f : Form) (m n : List (ℕ × ℕ)) (left : IsFoundNode k i f m) (right : IsFoundNode k j f n) where
  -- slots have one number where the code's maps have one
  pub one-number : (s t : ℕ) → ((x : ℕ) × Contains m (x, s) × Contains n (x, t)) ↔ HasOneNumber (entries_of k) (nodes_of k) i j s t
  one-number s t = (
    λ h. record {
      left = slot-stands k i f m left h.0 s h.1;
      right = slot-stands k j f n right h.0 t h.2;
      number = slot-number k i f m left h.0 s h.1 ∙ sym (slot-number k j f n right h.0 t h.2);
    },
    λ h.
        let p : (x : ℕ) × Contains m (x, s) = Contains-of_value m s ((left.slots s).1 h.left) in
        let q : (y : ℕ) × Contains n (y, t) = Contains-of_value n t ((right.slots t).1 h.right) in
        let same : p.0 ≡ q.0 =
        number_in-injective (free_names (nameless_node f).args) p.0 q.0
        (sym (slot-number k i f m left p.0 s p.1) ∙ (h.number ∙ slot-number k j f n right q.0 t q.1)) in
        (p.0, p.1, subst (λ y. Contains n (y, t)) (sym same) q.1),
  )

  module _ (canonical : Canonical (nodes_of k)) (li : i < length (nodes_of k)) (lj : j < length (nodes_of k)) where
    abbrev P : List ℕ
    P = canonical_slots (nodes_of k) i

    abbrev Q : List ℕ
    Q = canonical_slots (nodes_of k) j

    own-full : (c : ℕ) → IsFullMap (canonical_slots (nodes_of k) c) (identity (canonical_slots (nodes_of k) c))
    own-full c =
        let S : List ℕ = canonical_slots (nodes_of k) c in
        full-from S (identity S) (keys-identity S) (slots-different (nodes_of k) c) (λ s u x a b. (identity-pair S s x a).1 ∙ sym (identity-pair S u x b).1)

    same-numbers : keys n ≡ keys m
    same-numbers = right.numbers ∙ sym left.numbers

    numbers-partial : IsPartialInjection Q (keys m) (same_names (identity Q) n)
    numbers-partial =
        subst (λ K. IsPartialInjection Q K (same_names (identity Q) n)) same-numbers
        (same_names-partial Q (keys n) (identity Q) n (own-full j) (names-full k j f n right))

    slots-partial : IsPartialInjection (keys m) P m
    slots-partial = full-partial (keys m) P m (names-full k i f m left) (λ x s c. normal-slots (nodes_of k) canonical (entries_of k) i li s (slot-stands k i f m left x s c))

    pub partners-partial : IsPartialInjection Q P (number_partners m n (identity Q))
    partners-partial = composite-partial Q (keys m) P (same_names (identity Q) n) m numbers-partial slots-partial

    -- the pairs are those of one number
    pub partner-pairs : (s t : ℕ) → Contains (turned P (number_partners m n (identity Q))) (s, t) ↔ HasOneNumber (entries_of k) (nodes_of k) i j s t
    partner-pairs s t = (λ c. (one-number s t).0 (numbered c), λ h. paired ((one-number s t).1 h))
      where
        numbered : Contains (turned P (number_partners m n (identity Q))) (s, t) → (x : ℕ) × Contains m (x, s) × Contains n (x, t)
        numbered c =
            let r = composite-over (same_names (identity Q) n) m t s (turned-pair P (number_partners m n (identity Q)) t s c) in
            let o = same_names-over (identity Q) n t r.0 r.1 in
            (r.0, r.2, subst (λ y. Contains n (r.0, y)) (sym (identity-pair Q t o.0 o.1).1) o.2)

        paired : (x : ℕ) × Contains m (x, s) × Contains n (x, t) → Contains (turned P (number_partners m n (identity Q))) (s, t)
        paired h =
            let own : Contains (identity Q) (t, t) = identity-by Q t (normal-slots (nodes_of k) canonical (entries_of k) j lj t (slot-stands k j f n right h.0 t h.2)) in
            let first : Contains (same_names (identity Q) n) (t, h.0) = same_names-by (keys n) (identity Q) n (names-full k j f n right) t h.0 t own h.2 in
            turned-by Q P (number_partners m n (identity Q)) partners-partial t s (composite-by (keys m) (same_names (identity Q) n) m slots-partial.in_order t h.0 s first h.1)

    one-shape : theory.shape (normal_node (finds_of k) i) ≡ theory.shape (normal_node (finds_of k) j)
    one-shape = sym (ap (λ (r : Row). r.shape) left.row) ∙ ap (λ (r : Row). r.shape) right.row

    -- full ids that share names there are twins
    pub twin-sides : (a b : Applied) → a.0 ≡ i → b.0 ≡ j → IsFull (nodes_of k) a → IsFull (nodes_of k) b → same_names a.1 b.1 ≡ turned P (number_partners m n (identity Q)) → HasNormalTwin (nodes_of k) (entries_of k) a b
    twin-sides a b ea eb fa fb pairs =
        let nodes = nodes_of k in
        let found = entries_of k in
        let A : List (ℕ × ℕ) = turned P (number_partners m n (identity Q)) in
        let r : (c : Applied) × (c.0 ≡ j) × HasNormalTwin nodes found a c =
        shape-twin nodes canonical found a fa j lj (subst (λ z. theory.shape (normal_node (finds_of k) z) ≡ theory.shape (normal_node (finds_of k) j)) (sym ea) one-shape) in
        let c : Applied = r.0 in
        let twin : HasNormalTwin nodes found a c = r.2 in
        let number : (s t : ℕ) → Contains (same_names a.1 c.1) (s, t) ↔ HasOneNumber found nodes i j s t = λ s t.
        subst (λ z. Contains (same_names a.1 c.1) (s, t) ↔ HasOneNumber found nodes i z s t) r.1
        (subst (λ y. Contains (same_names a.1 c.1) (s, t) ↔ HasOneNumber found nodes y c.0 s t) ea (twins-pair nodes found a c fa twin s t)) in
        let fm : IsFullMap P a.1 = subst (λ y. IsFullMap (canonical_slots nodes y) a.1) ea (full_map nodes a fa) in
        let same : A ≡ same_names a.1 c.1 =
        in_order-ext P A (same_names a.1 c.1) (turned-partial Q P (number_partners m n (identity Q)) partners-partial).in_order
        (same_names-partial P (canonical_slots nodes c.0) a.1 c.1 fm (full_map nodes c twin.full)).in_order
        (λ s t h. (number s t).1 ((partner-pairs s t).0 h)) (λ s t h. (partner-pairs s t).1 ((number s t).0 h)) in
        let e : equation_of a b ≡ equation_of a c = λ z. record { left = a.0; right = (eb ∙ sym r.1) z; pairs = (pairs ∙ same) z } in
        twins-move nodes found a c a b fa twin fa fb e
