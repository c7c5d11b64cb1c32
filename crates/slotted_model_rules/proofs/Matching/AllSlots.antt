-- Where no class has dropped a slot: what a full id finds has all of its names, and full ids that find alike are the same.
use Rattle.std.proofs.Common.{◌≡◌, ℕ, List, [], ◌∷◌, ◌++◌, sym, ◌∙◌, ap, subst, inl, inr}
use Rattle.std.specs.Prelude.{Contains}
use Rattle.std.specs.Map.{values_of}
use Rattle.slotted_lists.proofs.Members.{In, In-left, In-right, In-map, In-of_map, In-Contains, Contains-In}
use Rattle.slotted_lists.proofs.Maps.{with_values-agree}
use Rattle.slotted_theory.specs.Nameless.{DTerm, moved}
use Rattle.slotted_theory.specs.FiniteMaps.{filled}
use Rattle.slotted_theory.specs.Renaming.{IsInjective}
use Rattle.slotted_theory.specs.Shape.{free_names}
use Rattle.slotted_theory.proofs.ByBijection.{moved-injective}
use Rattle.slotted_model.specs.Applied.{Applied, keys, values, renamed_id, as_term}
use Rattle.slotted_model.specs.Classes.{canonical_node, canonical_slots, IsFull}
use Rattle.slotted_model.specs.Correspondence.{AllDifferent, IsPartialInjection}
use Rattle.slotted_model.specs.Find.{find_class, find_map, find, Linked}
use Rattle.slotted_model.specs.Normal.{normal}
use Rattle.slotted_model.specs.ProofList.{node_of}
use Rattle.slotted_model.specs.State.{Row, State}
use Rattle.slotted_model.specs.Rest.{IsValidIn, AtRest}
use Rattle.slotted_model.proofs.Represented.Children.{moved-as_term}
use Rattle.slotted_model.proofs.Finds.Congruence.{normal_args-names}
use Rattle.slotted_model.proofs.Correspondences.Pairs.{Contains-key, Contains-value, Contains-of_value}
use Rattle.slotted_model.proofs.Correspondences.PartialInjections.{one_partner, composite-by}
use Rattle.slotted_model.proofs.Correspondences.FullMaps.{full-in_order}
use Rattle.slotted_model.proofs.Represented.Fillings.{filling-iff}
use Rattle.slotted_model.proofs.Finds.Finding.{leads, find_map-partial}
use Rattle.slotted_model.proofs.Represented.Folds.{as_term-same}
use Rattle.slotted_model.proofs.Represented.Full.{full-ascending}
use Rattle.slotted_model.proofs.Data.Maps.{pair-filled}
use Rattle.slotted_model.proofs.Finds.NormalIds.{of_used, valid-map, full-is_valid, found-name}
use Rattle.slotted_model.proofs.Represented.RenamedIds.{node_of-renamed, normal-moves}
use Rattle.slotted_model.proofs.Rebuilding.RowNodes.{row_node, row-normal, node-valid}
use Rattle.slotted_model.proofs.Data.Sets.{In-ascending}
use Rattle.slotted_model.proofs.Data.Theory.{free_names-moved}
use Rattle.slotted_model_rules.specs.Complete.{HasAllSlots}

-- two lists with no name in common, none of which has a name twice
pub different-parts : (xs ys : List ℕ) → AllDifferent (xs ++ ys) → AllDifferent xs × AllDifferent ys × ((z : ℕ) → In z xs → In z ys → ⊥)
different-parts [] ys d = (tt, d, λ z h k. h)
different-parts (x ∷ xs) ys d =
    let r : AllDifferent xs × AllDifferent ys × ((z : ℕ) → In z xs → In z ys → ⊥) = different-parts xs ys d.1 in (
      (λ c. d.0 (Contains-In (xs ++ ys) x (In-left x xs ys (In-Contains xs x c))), r.0),
      r.1,
      λ z h k. elim h [
        | inl e ↦ d.0 (Contains-In (xs ++ ys) x (In-right x xs ys (subst (λ w. In w ys) e k)))
        | inr l ↦ r.2 z l k
      ],
    )

-- an injective renaming keeps different ids different
pub renamed-injective : (f : ℕ → ℕ) → IsInjective f → (a b : Applied) → renamed_id f a ≡ renamed_id f b → a ≡ b
renamed-injective f inj a b e = as_term-same a b (moved-injective f inj (as_term a) (as_term b) (moved-as_term f a ∙ (ap as_term e ∙ sym (moved-as_term f b))))

-- two functions that agree on an id's names rename it alike
pub renamed-agrees : (f g : ℕ → ℕ) (a : Applied) → ((z : ℕ) → In z (values a.1) → f z ≡ g z) → renamed_id f a ≡ renamed_id g a
renamed-agrees f g a h = ap (λ m. (a.0, m)) (with_values-agree f g a.1 h)

-- what is found has no other names
pub found-values : (g : State) (a : Applied) (z : ℕ) → In z (values (find g.found a).1) → In z (values a.1)
found-values g a z h =
    let r : (s : ℕ) × Contains (find g.found a).1 (s, z) = Contains-of_value (find g.found a).1 z (Contains-In (values (find g.found a).1) z h) in
    let k : (t : ℕ) × Contains (find_map g.found a.0) (r.0, t) × Contains a.1 (t, z) = found-name g.found a r.0 z r.1 in
    In-Contains (values a.1) z (Contains-value a.1 k.0 z k.2)

module _ (g : State) (rest : AtRest g) (all : HasAllSlots g) where
  abbrev linked : Linked g.nodes g.found
  linked = rest.sane.sound.linked

  -- a slot of a full id is one that the find uses
  used : (b : Applied) → IsFull g.nodes b → (t z : ℕ) → Contains b.1 (t, z) → (s : ℕ) × Contains (find_map g.found b.0) (s, t) × Contains (find g.found b).1 (s, z)
  used b full t z c =
      let k : Contains (canonical_slots g.nodes b.0) t = subst (λ S. Contains S t) full.slots (Contains-key b.1 t z c) in
      let u : Contains (values_of (find_map g.found b.0)) t = of_used g.found b.0 t (subst (λ S. Contains S t) (sym (all b.0 full.in_range)) k) in
      let r : (s : ℕ) × Contains (find_map g.found b.0) (s, t) = Contains-of_value (find_map g.found b.0) t u in
      let v : IsValidIn g b = full-is_valid g.nodes g.found linked b full in
      (r.0, r.1, composite-by (keys b.1) (find_map g.found b.0) b.1 (full-in_order (keys b.1) b.1 (valid-map g.nodes g.found linked b v)) r.0 t z r.1 c)

  -- so what a full id finds has all of its names
  pub all-names : (b : Applied) → IsFull g.nodes b → (z : ℕ) → In z (values b.1) → In z (values (find g.found b).1)
  all-names b full z h =
      let r : (t : ℕ) × Contains b.1 (t, z) = Contains-of_value b.1 z (Contains-In (values b.1) z h) in
      let k : (s : ℕ) × Contains (find_map g.found b.0) (s, r.0) × Contains (find g.found b).1 (s, z) = used b full r.0 z r.1 in
      In-Contains (values (find g.found b).1) z (Contains-value (find g.found b).1 k.0 z k.2)

  -- and full ids of one class that find alike are the same
  pub alike-same : (b c : Applied) → IsFull g.nodes b → IsFull g.nodes c → b.0 ≡ c.0 → find g.found b ≡ find g.found c → c ≡ b
  alike-same b c fb fc e same = (filling-iff g.nodes [] b c fb).0 (record {
    class = sym e;
    full = fc;
    keeps = λ t z h.
        let k : (s : ℕ) × Contains (find_map g.found b.0) (s, t) × Contains (find g.found b).1 (s, z) = used b fb t z h in
        let l : Contains (find g.found c).1 (k.0, z) = subst (λ (a : Applied). Contains a.1 (k.0, z)) same k.2 in
        let m : (u : ℕ) × Contains (find_map g.found c.0) (k.0, u) × Contains c.1 (u, z) = found-name g.found c k.0 z l in
        let P : IsPartialInjection (canonical_slots g.nodes (find_class g.found b.0)) (canonical_slots g.nodes b.0) (find_map g.found b.0) = find_map-partial g.nodes g.found (leads g.nodes g.found linked) b.0 fb.in_range in
        let u : m.0 ≡ t =
        one_partner (canonical_slots g.nodes (find_class g.found b.0)) (find_map g.found b.0) P.in_order k.0 m.0 t (subst (λ i. Contains (find_map g.found i) (k.0, m.0)) (sym e) m.1) k.1 in
        subst (λ w. Contains c.1 (w, z)) u m.2;
    fresh = λ t z h n. absurd (n (subst (λ S. Contains S t) (sym (fb.slots ∙ (ap (canonical_slots g.nodes) e ∙ sym fc.slots))) (Contains-key c.1 t z h)));
  })

  -- the free names of a row's node are those of the id
  pub row-names : (r : Row) → Contains g.rows r → (b : Applied) → IsFull g.nodes b → b.0 ≡ r.source → (z : ℕ) → In z (free_names (row_node r b).args) → In z (values b.1)
  row-names r c b full s z h =
      let k : In z (free_names (node_of g.nodes b).args) =
      normal_args-names (IsValidIn g) g.found (node_of g.nodes b).args (node-valid g rest b full) z (subst (λ (t : DTerm). In z (free_names t.args)) (row-normal g rest r c b s) h) in
      let canon : DTerm = canonical_node g.nodes b.0 in
      let m : (t : ℕ) × In t (free_names canon.args) × (z ≡ filled b.1 t) = In-of_map (filled b.1) (free_names canon.args) z (subst (In z) (free_names-moved (filled b.1) canon.args) k) in
      let key : In m.0 (keys b.1) = subst (In m.0) (sym full.slots) (In-ascending m.0 (free_names canon.args) m.1) in
      In-map (λ (p : ℕ × ℕ). p.1) b.1 (m.0, z) (subst (λ w. In (m.0, w) b.1) (sym m.2) (pair-filled b.1 m.0 (full-ascending g.nodes b full) key))

  -- and it moves with the id's names
  pub row-moved : (r : Row) → Contains g.rows r → (b : Applied) → IsFull g.nodes b → b.0 ≡ r.source → (f : ℕ → ℕ) → row_node r (renamed_id f b) ≡ moved f (row_node r b)
  row-moved r c b full s f =
      row-normal g rest r c (renamed_id f b) s
      ∙ (ap (normal g.found) (node_of-renamed g.nodes b full f) ∙ (normal-moves g.found f (node_of g.nodes b) ∙ ap (moved f) (sym (row-normal g rest r c b s))))
