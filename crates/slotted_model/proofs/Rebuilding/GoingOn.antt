-- Graphs that go on from others: all that was equal, linked, filed and listed is so still.
use Rattle.std.proofs.Common.{◌≡◌, ℕ, ◌<◌, List, length, arith, sym, ◌∙◌, ap, refl, subst}
use Rattle.std.specs.Prelude.{Contains}
use Rattle.std.specs.Map.{values_of}
use Rattle.slotted_theory.specs.Nameless.{DTerm, moved}
use Rattle.slotted_theory.specs.FiniteMaps.{filled}
use Rattle.slotted_theory.proofs.Filled.{filled-injective}
use Rattle.slotted_model.specs.Ascending.{IsAscending, names}
use Rattle.slotted_model.specs.Applied.{Applied, EachChild}
use Rattle.slotted_model.specs.Classes.{canonical_node, canonical_slots, IsFull}
use Rattle.slotted_model.specs.Correspondence.{identity}
use Rattle.slotted_model.specs.Find.{used_slots, find_map, find, Linked}
use Rattle.slotted_model.specs.ProofList.{explicit, step_at, node_of}
use Rattle.slotted_model.specs.Normal.{normal}
use Rattle.slotted_model.specs.Sound.{Sound}
use Rattle.slotted_model.specs.State.{Row, Symmetry, State, sources, filed_node, normal_node}
use Rattle.slotted_model.specs.Rest.{IsValidIn, UpToSymmetries, found_alike, listed, turned_round, joined, LinkedTo, IsRow, IsListed, Sane, Represents}
use Rattle.slotted_model.specs.Changes.{GoesOn}
use Rattle.slotted_model.proofs.Data.Sets.{IsAscending-ascending}
use Rattle.slotted_model.proofs.Data.Maps.{IsInjectiveMap-map_on}
use Rattle.slotted_model.proofs.Represented.Children.{EachChild-map, EachChild-moved}
use Rattle.slotted_model.proofs.Finds.Congruence.{normal-goes_on}
use Rattle.slotted_model.proofs.Represented.Full.{full-children}
use Rattle.slotted_model.proofs.Finds.Finding.{leads, find_map-partial}
use Rattle.slotted_model.proofs.Finds.NormalIds.{keys-identity, of_used, found-valid, found-again, full-is_valid}
use Rattle.slotted_model.proofs.Correspondences.Pairs.{Contains-of_value}
use Rattle.slotted_model.proofs.Represented.RenamedIds.{valid-renamed}

-- each graph goes on from itself, and from what those before it go on from
pub goes_on-same : (g : State) → Linked g.nodes g.found → GoesOn g g
goes_on-same g l = record {
  classes = λ i h. (h, refl);
  finds = λ a v. (v, sym (found-again g.nodes g.found l a v));
  proofs = λ p h. (h, refl);
  symmetries = λ y c. c;
}

pub goes_on-then : (f g h : State) → Linked f.nodes f.found → GoesOn f g → GoesOn g h → GoesOn f h
goes_on-then f g h l r s = record {
  classes = λ i k. let a = r.classes i k in let b = s.classes i a.0 in (b.0, b.1 ∙ a.1);
  finds = λ a v.
      let va : IsValidIn g a = (r.finds a v).0 in
      let vf : IsValidIn g (find f.found a) = (r.finds (find f.found a) (found-valid f.nodes f.found l a v)).0 in
      ((s.finds a va).0, (s.finds a va).1 ∙ (ap (find h.found) (r.finds a v).1 ∙ sym (s.finds (find f.found a) vf).1));
  proofs = λ p k. let a = r.proofs p k in let b = s.proofs p a.0 in (b.0, b.1 ∙ a.1);
  symmetries = λ y c. s.symmetries y (r.symmetries y c);
}

-- an id with its own name for each slot that its class uses
pub used-valid : (g : State) → Linked g.nodes g.found → (i : ℕ) → i < length g.nodes → IsValidIn g (i, identity (used_slots g.found i))
used-valid g l i h =
    let S : List ℕ = used_slots g.found i in
    let asc : IsAscending S = IsAscending-ascending (values_of (find_map g.found i)) in
    record {
      in_range = h;
      ascending = subst IsAscending (sym (keys-identity S)) asc;
      injective = IsInjectiveMap-map_on (λ s. s) S (λ s t a b e. e) asc;
      has_slots = λ s c. subst (λ K. Contains K s) (sym (keys-identity S)) c;
      within = λ s c.
          let r = Contains-of_value (find_map g.found i) s (of_used g.found i s (subst (λ K. Contains K s) (keys-identity S) c)) in
          (find_map-partial g.nodes g.found (leads g.nodes g.found l) i h).within r.0 s r.1;
    }

module _ (older newer : State) (sound : Sound older.nodes older.found older.proofs) (on : GoesOn older newer) where
  -- what was found alike is found alike
  pub still-alike : (a b : Applied) → IsValidIn older a → IsValidIn older b → find older.found a ≡ find older.found b → find newer.found a ≡ find newer.found b
  still-alike a b v w e = (on.finds a v).1 ∙ (ap (find newer.found) e ∙ sym (on.finds b w).1)

  -- a class uses no new slots
  pub still-used : (i s : ℕ) → i < length older.nodes → Contains (used_slots newer.found i) s → Contains (used_slots older.found i) s
  still-used i s h c =
      let S : List ℕ = used_slots older.found i in
      subst (λ K. Contains K s) (keys-identity S) ((on.finds (i, identity S) (used-valid older sound.linked i h)).0.has_slots s c)

  pub still-slots : (i : ℕ) → i < length older.nodes → canonical_slots newer.nodes i ≡ canonical_slots older.nodes i
  still-slots i h = ap names (on.classes i h).1

  pub still-full : (a : Applied) → IsFull older.nodes a → IsFull newer.nodes a
  still-full a full = record { in_range = (on.classes a.0 full.in_range).0; slots = full.slots ∙ sym (still-slots a.0 full.in_range); injective = full.injective }

  pub still-node : (a : Applied) → IsFull older.nodes a → node_of newer.nodes a ≡ node_of older.nodes a
  still-node a full = ap (moved (filled a.1)) (on.classes a.0 full.in_range).1

  -- normal forms go on
  pub still-normal : (d : DTerm) → EachChild (IsValidIn older) d.args → normal newer.found d ≡ normal newer.found (normal older.found d)
  still-normal d c = normal-goes_on (IsValidIn older) older.found newer.found (λ a v. (on.finds a v).1) d c

  canonical-valid : (i : ℕ) → i < length older.nodes → EachChild (IsValidIn older) (canonical_node older.nodes i).args
  canonical-valid i h = EachChild-map (λ a. (a.0 < i) × IsFull older.nodes a) (IsValidIn older) (λ a k. full-is_valid older.nodes older.found sound.linked a k.1) (canonical_node older.nodes i).args (sound.canonical.children i h)

  node-valid : (a : Applied) → IsFull older.nodes a → EachChild (IsValidIn older) (node_of older.nodes a).args
  node-valid a full = EachChild-map (λ b. (b.0 < a.0) × IsFull older.nodes b) (IsValidIn older) (λ b k. full-is_valid older.nodes older.found sound.linked b k.1) (node_of older.nodes a).args (full-children older.nodes sound.canonical a full)

  pub still-normal_node : (i : ℕ) → i < length older.nodes → normal_node newer i ≡ normal newer.found (normal_node older i)
  still-normal_node i h = ap (normal newer.found) (on.classes i h).1 ∙ still-normal (canonical_node older.nodes i) (canonical-valid i h)

  -- what was equal up to listed symmetries is so
  pub still-equal : {a b : Applied} → UpToSymmetries older a b → UpToSymmetries newer a b
  still-equal (found_alike {a = a} {b = b} v w e) = found_alike (on.finds a v).0 (on.finds b w).0 (still-alike a b v w e)
  still-equal (listed y f c inj) = listed y f (on.symmetries y c) inj
  still-equal (turned_round e) = turned_round (still-equal e)
  still-equal (joined d e) = joined (still-equal d) (still-equal e)

  -- ids whose nodes had one normal form
  pub still-same : (a b : Applied) → IsFull older.nodes a → IsFull older.nodes b → normal older.found (node_of older.nodes a) ≡ normal older.found (node_of older.nodes b) → normal newer.found (node_of newer.nodes a) ≡ normal newer.found (node_of newer.nodes b)
  still-same a b fa fb e =
      let goes : (x : Applied) → IsFull older.nodes x → normal newer.found (node_of newer.nodes x) ≡ normal newer.found (normal older.found (node_of older.nodes x)) =
      λ x fx. ap (normal newer.found) (still-node x fx) ∙ still-normal (node_of older.nodes x) (node-valid x fx) in
      goes a fa ∙ (ap (normal newer.found) e ∙ sym (goes b fb))

  pub still-linked : (i o : ℕ) → LinkedTo older i o → LinkedTo newer i o
  still-linked i o l = record {
    left = l.left;
    right = l.right;
    left_class = l.left_class;
    right_class = l.right_class;
    left_full = still-full l.left l.left_full;
    right_full = still-full l.right l.right_full;
    same = still-same l.left l.right l.left_full l.right_full l.same;
    equal = still-equal l.equal;
  }

  -- what was a row is one
  pub still-row : (r : Row) → IsRow older r → IsRow newer r
  still-row r row = record {
    in_range = (on.classes r.source row.in_range).0;
    operator = row.operator;
    children = EachChild-map (IsValidIn older) (IsValidIn newer) (λ a v. (on.finds a v).0) r.shape.args row.children;
    is_shape = row.is_shape;
    numbers = row.numbers;
    injective = row.injective;
    within = λ s c. subst (λ K. Contains K s) (sym (still-slots r.source row.in_range)) (row.within s c);
    normal_form =
        still-normal (filed_node r) (EachChild-moved (IsValidIn older) (λ f inj a v. valid-renamed (used_slots older.found) older.nodes f inj a v) (filled r.slots) (filled-injective r.slots row.injective) r.shape.args row.children)
        ∙ (ap (normal newer.found) row.normal_form ∙ sym (still-normal_node r.source row.in_range));
  }

  -- what was listed is listed
  pub still-listed : (y : Symmetry) → IsListed older y → IsListed newer y
  still-listed y l =
      let p = on.proofs y.proof l.proof in
      record {
        in_range = (on.classes y.class l.in_range).0;
        ascending = l.ascending;
        used = λ s c. l.used s (still-used y.class s l.in_range c);
        within = λ s c. subst (λ K. Contains K s) (sym (still-slots y.class l.in_range)) (l.within s c);
        bijection = l.bijection;
        total = l.total;
        onto = l.onto;
        moves = l.moves;
        proof = p.0;
        exact = p.1 ∙ l.exact;
      }

-- where no class and no row is missing and nothing more is asserted, the newer graph represents what the older one did
pub still-represents : (older newer : State) → Sane older → GoesOn older newer → length newer.nodes ≡ length older.nodes →
    ((o : ℕ) → Contains (sources older.rows) o → Contains (sources newer.rows) o) →
    ((p : ℕ) → p < length newer.proofs → step_at newer.proofs p ≡ explicit → (p < length older.proofs) × (step_at older.proofs p ≡ explicit)) →
    Represents older → Represents newer
still-represents older newer sane on same rows silent r = record {
  linked = λ i h. let l = r.linked i (omega (arith, same, h)) in (l.0, rows l.0 l.1, still-linked older newer sane.sound on i l.0 l.2);
  asserted = λ p h x a b fa fb e.
      let q = silent p h x in
      let fa' : IsFull older.nodes a = before a fa in
      let fb' : IsFull older.nodes b = before b fb in
      still-equal older newer sane.sound on (r.asserted p q.0 q.1 a b fa' fb' (e ∙ (on.proofs p q.0).1));
}
  where
    before : (a : Applied) → IsFull newer.nodes a → IsFull older.nodes a
    before a full =
        let h : a.0 < length older.nodes = let k : a.0 < length newer.nodes = full.in_range in omega (arith, same) in
        record { in_range = h; slots = full.slots ∙ still-slots older newer sane.sound on a.0 h; injective = full.injective }
