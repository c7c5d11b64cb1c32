-- Listed symmetries stay aligned where a class dies, and are aligned when they are listed.
use Rattle.std.proofs.Common.{◌≡◌, ℕ, ◌<◌, List, sym, ◌∙◌, ap, subst, inl, inr}
use Rattle.std.specs.Prelude.{length, Contains}
use Rattle.std.specs.Map.{keys_of, values_of}
use Rattle.std.proofs.lemmas.Bool.{cases_eq}
use Rattle.slotted_model.specs.Applied.{Applied, values}
use Rattle.slotted_model.specs.Classes.{canonical_slots}
use Rattle.slotted_model.specs.Correspondence.{composite, turned, identity}
use Rattle.slotted_model.specs.Find.{IsLive, Entry, entry_at, find_class, find_map, used_slots, find, Linked}
use Rattle.slotted_model.specs.Link.{CanLink, IsLater, with_link}
use Rattle.slotted_model.specs.ProofList.{Equation, equation_at}
use Rattle.slotted_model.specs.State.{State, Symmetry, HasTouched, left_of, right_of}
use Rattle.slotted_model.specs.Rest.{IsValidIn, id_names, IsAligned, IsListed, Sane}
use Rattle.slotted_model.specs.Changes.{linked_state}
use Rattle.slotted_model.proofs.Correspondences.Pairs.{Contains-key, Contains-value, Contains-of_key, Contains-of_value}
use Rattle.slotted_model.proofs.Correspondences.PartialInjections.{composite-by, composite-over, turned-by, turned-pair, identity-by, identity-pair, identity-in_order, pairs_on-in_order}
use Rattle.slotted_model.proofs.Correspondences.FullMaps.{full-in_order}
use Rattle.slotted_model.proofs.Finds.Finding.{leads, found_keys, find_map-live}
use Rattle.slotted_model.proofs.Finds.NormalIds.{used-live, found-full, found-slots, found-valid, found-again, found-name}
use Rattle.slotted_model.proofs.Finds.Linking.{link_map, link-refines, left-map}
use Rattle.slotted_model.proofs.Rebuilding.UpTo.{left-valid, right-valid}
use Rattle.slotted_model.proofs.Rebuilding.Lacking.{same-ascending}
use Rattle.slotted_model.proofs.Rebuilding.Events.{link-leaves}

-- a link by an equation that pairs all slots of both classes
module _ (g : State) (sane : Sane g) (e : Equation) (proof moment : ℕ) (can : CanLink g.nodes g.found e) (later : IsLater g.found moment) (h : proof < length g.proofs) (says : equation_at g.proofs proof ≡ e) (w : List ℕ) (t : HasTouched g e.left w)
    (all : (s : ℕ) → Contains (used_slots g.found e.left) s → Contains (keys_of e.pairs) s) (used : (s : ℕ) → Contains (values_of e.pairs) s → Contains (used_slots g.found e.right) s) where
  abbrev linked : Linked g.nodes g.found
  linked = sane.sound.linked

  abbrev newer : List Entry
  newer = with_link g.nodes g.found e proof moment

  -- each slot of the left class has a slot of the right one
  partner : (s : ℕ) → Contains (used_slots g.found e.left) s → (r : ℕ) × Contains (find_map newer e.left) (r, s)
  partner s c =
      let p = Contains-of_key e.pairs s (all s c) in
      let S : List ℕ = keys_of (entry_at g.found e.right).pairs in
      let u : Contains S p.0 = subst (λ K. Contains K p.0) (used-live g.nodes g.found linked e.right can.over.right can.right_lives) (used p.0 (Contains-value e.pairs s p.0 p.1)) in
      let i : Contains (entry_at g.found e.right).pairs (p.0, p.0) = subst (λ m. Contains m (p.0, p.0)) (sym (linked.live e.right can.over.right can.right_lives)) (identity-by S p.0 u) in
      let l : Contains (link_map g.nodes g.found linked e proof moment can later) (p.0, s) = turned-by (canonical_slots g.nodes e.left) (canonical_slots g.nodes e.right) e.pairs can.over.pairs s p.0 p.1 in (
        p.0,
        subst (λ m. Contains m (p.0, s)) (sym (left-map g.nodes g.found linked e proof moment can later))
            (composite-by (canonical_slots g.nodes e.right) (entry_at g.found e.right).pairs (turned (canonical_slots g.nodes e.right) e.pairs) (pairs_on-in_order (canonical_slots g.nodes e.right) _) p.0 p.0 s i l),
      )

  abbrev found_id : Applied → Applied
  found_id a = find g.found a

  names-older : (a : Applied) → IsValidIn g a → (z : ℕ) → Contains (values (find newer (found_id a)).1) z → Contains (values (found_id a).1) z
  names-older a v z c =
      let p = Contains-of_value (find newer (found_id a)).1 z c in
      let q = found-name newer (found_id a) p.0 z p.1 in
      Contains-value (found_id a).1 q.0 z q.2

  names-newer : (a : Applied) → IsValidIn g a → (z : ℕ) → Contains (values (found_id a).1) z → Contains (values (find newer (found_id a)).1) z
  names-newer a v z c = elim (cases_eq (find_class g.found a.0) e.left) [
    | inl same ↦
        let p = Contains-of_value (found_id a).1 z c in
        let k : Contains (used_slots g.found (found_id a).0) p.0 = subst (λ K. Contains K p.0) (found-slots g.nodes g.found linked a v) (Contains-key (found_id a).1 p.0 z p.1) in
        let q = partner p.0 (subst (λ i. Contains (used_slots g.found i) p.0) same k) in
        let m : Contains (find_map newer (found_id a).0) (q.0, p.0) = subst (λ i. Contains (find_map newer i) (q.0, p.0)) (sym same) q.1 in
        let K : List ℕ = found_keys g.nodes g.found linked a.0 in
        Contains-value (composite (find_map newer (found_id a).0) (found_id a).1) q.0 z
        (composite-by K (find_map newer (found_id a).0) (found_id a).1 (full-in_order K (found_id a).1 (found-full g.nodes g.found linked a v)) q.0 p.0 z m p.1)
    | inr other ↦
        let stays : find newer (found_id a) ≡ found_id a =
        link-leaves g sane e proof moment can later h says w t (found_id a) (found-valid g.nodes g.found linked a v) (found-again g.nodes g.found linked a v) other in
        subst (λ (x : Applied). Contains (values x.1) z) (sym stays) c
  ]

  -- the link keeps the names that ids find
  pub same-names : (a : Applied) → IsValidIn g a → id_names (find newer a) ≡ id_names (find g.found a)
  same-names a v =
      ap id_names (link-refines g.nodes g.found linked e proof moment can later a v).1
      ∙ same-ascending (values (find newer (found_id a)).1) (values (found_id a).1) (names-older a v) (names-newer a v)

  -- so listed symmetries stay aligned
  pub link-aligned : (y : Symmetry) → IsListed g y → IsAligned g y → IsAligned (linked_state g e proof moment w) y
  link-aligned y l same = same-names (left_of y) (left-valid g y l) ∙ same ∙ sym (same-names (right_of y) (right-valid g y l))

-- a symmetry of all slots that a live class has is aligned
module _ (g : State) (sane : Sane g) (y : Symmetry) (l : IsListed g y) (live : IsLive g.found y.class) (slots : y.slots ≡ used_slots g.found y.class) where
  abbrev S : List ℕ
  S = y.slots

  abbrev φ : List (ℕ × ℕ)
  φ = find_map g.found y.class

  abbrev B : List (ℕ × ℕ)
  B = turned S y.pairs

  -- the find of the class pairs each slot with itself
  itself : φ ≡ identity S
  itself =
      let links : Linked g.nodes g.found = sane.sound.linked in
      find_map-live g.nodes g.found (leads g.nodes g.found links) y.class l.in_range live
      ∙ (links.live y.class l.in_range live ∙ ap identity (sym (used-live g.nodes g.found links y.class l.in_range live) ∙ sym slots))

  own : (s : ℕ) → Contains S s → Contains φ (s, s)
  own s c = subst (λ m. Contains m (s, s)) (sym itself) (identity-by S s c)

  left-right : (z : ℕ) → Contains (values (composite φ (identity S))) z → Contains (values (composite φ B)) z
  left-right z c =
      let k = Contains-of_value (composite φ (identity S)) z c in
      let r = composite-over φ (identity S) k.0 z k.1 in
      let e = identity-pair S r.0 z r.2 in
      let q = Contains-of_key y.pairs z (subst (λ K. Contains K z) (sym l.total) (subst (Contains S) e.1 e.0)) in
      let w : Contains S q.0 = l.bijection.within z q.0 q.1 in
      Contains-value (composite φ B) q.0 z (composite-by S φ B (pairs_on-in_order S _) q.0 q.0 z (own q.0 w) (turned-by S S y.pairs l.bijection z q.0 q.1))

  right-left : (z : ℕ) → Contains (values (composite φ B)) z → Contains (values (composite φ (identity S))) z
  right-left z c =
      let k = Contains-of_value (composite φ B) z c in
      let r = composite-over φ B k.0 z k.1 in
      let q : Contains y.pairs (z, r.0) = turned-pair S y.pairs z r.0 r.2 in
      let s : Contains S z = subst (λ K. Contains K z) l.total (Contains-key y.pairs z r.0 q) in
      Contains-value (composite φ (identity S)) z z (composite-by S φ (identity S) (identity-in_order S) z z z (own z s) (identity-by S z s))

  pub listed-aligned : IsAligned g y
  listed-aligned = same-ascending (values (composite φ (identity S))) (values (composite φ B)) left-right right-left
