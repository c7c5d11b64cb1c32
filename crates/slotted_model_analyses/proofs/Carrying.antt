-- Data along a union: it goes down, and what does not wait still absorbs what it makes.
use Rattle.std.proofs.Common.{◌≡◌, ℕ, ◌+◌, ◌<◌, List, length, sym, ap, refl, subst, inl, inr, arith}
use Rattle.std.specs.Prelude.{◌⊎◌, Contains}
use Rattle.std.specs.Map.{keys_of}
use Rattle.slotted_model.specs.Correspondence.{AllDifferent, identity}
use Rattle.slotted_model.specs.Find.{Entry, entry_at, IsLive, find_class}
use Rattle.slotted_model.specs.Link.{CanLink, IsLater, CanDrop, with_link, with_slots}
use Rattle.slotted_model.specs.ProofList.{Equation, turned_equation}
use Rattle.slotted_model.specs.State.{Row, State, sources, HasTouched}
use Rattle.slotted_model.specs.Rest.{Sane, size, size_from}
use Rattle.slotted_model.specs.Changes.{GoesOn, linked_state, dropped_state, with_proofs, found_entry, StandsAt, Unites, finds_alike, proves, drops_left, drops_right, left_dies, right_dies, lists, is_listed}
use Rattle.slotted_model.specs.Extraction.{row_class}
use Rattle.slotted_model.proofs.Rebuilding.Events.{link-size, drop-sane, drop-size}
use Rattle.slotted_model.proofs.Rebuilding.GrowingLists.{proofs-go_on, proofs-sane}
use Rattle.slotted_model.proofs.Finds.Replacing.{live-stays}
use Rattle.slotted_model.proofs.Finds.Linking.{link-replaces}
use Rattle.slotted_model.proofs.Finds.Linking as linking
use Rattle.slotted_model.proofs.Rebuilding.Rows.{source-in}
use Rattle.slotted_model.proofs.Rebuilding.Unions.{can_drop-left, can_drop-right, can_link-left, can_link-right, back-key}
use Rattle.slotted_model_analyses.specs.Analysis.{Analysis, IsMerge, Absorbs}
use Rattle.slotted_model_analyses.specs.DataPart.{DataPart, made, with_pending, CarriesLink, Carries, HasData, heights_from, size_with_data, GoesDown, DataGoesDown}
use Rattle.slotted_model_analyses.proofs.Absorbing.{absorbs-same, absorbs-then}
use Rattle.slotted_model_analyses.proofs.FoundClasses.{linked-class, dropped-class}
use Rattle.slotted_model_analyses.proofs.Heights.{height_at, height-live, height-dead, heights-set}
use Rattle.slotted_model_analyses.proofs.Merging.{down-then, down-same, HasMerged, merged}

module _ {D : Type 0} (a : Analysis D) (law : IsMerge D a) where
  -- what holds after data has gone along: rows that do not wait absorb what they make, data goes down, all that waited waits, and the size has fallen
  -- if anything has changed
  pub record HasCarried (g : State) (s : DataPart D) (h : State) (t : DataPart D) : Type 0 where
    pub has : HasData a h t
    pub classes : DataGoesDown a g s h t
    pub down : GoesDown a s t
    pub falls : (size_with_data a h t < size_with_data a g s) ⊎ ((h.found ≡ g.found) × (h.waiting ≡ g.waiting) × (t ≡ s))

  pub same-carried : (g : State) (s t : DataPart D) → HasData a g s → t ≡ s → HasCarried g s g t
  same-carried g s t has e = subst (HasCarried g s g) (sym e) (record {
    has = has;
    classes = λ i h. absorbs-same a law (s.data_of (find_class g.found i));
    down = down-same a law s s.pending;
    falls = inr (refl, refl, refl);
  })

  -- the same graph with other proofs or listed symmetries
  pub has-proofs : (g : State) (s : DataPart D) → HasData a g s → (h : State) → h.nodes ≡ g.nodes → h.rows ≡ g.rows → h.waiting ≡ g.waiting → h.found ≡ g.found → HasData a h s
  has-proofs g s has h nodes rows waiting found = record {
    waits_once = has.waits_once;
    waits_whole = λ o k. has.waits_whole o (subst (λ w. Contains w o) waiting k);
    waits_for_row = λ o k. subst (λ rs. Contains (sources rs) o) (sym rows) (has.waits_for_row o k);
    absorbs_made = λ r k n. subst (λ f. Absorbs a (s.data_of (find_class f r.source)) (made a s r.shape)) (sym found) (has.absorbs_made r (subst (λ rs. Contains rs r) rows k) n);
    changed_once = has.changed_once;
    changed_in_range = λ i k. subst (λ ns. i < length ns) (sym nodes) (has.changed_in_range i k);
  }

  -- other entries, by which data goes down and what waits is more
  has-after : (g : State) (s : DataPart D) → Sane g → HasData a g s → (found : List Entry) (waiting : List ℕ) (t : DataPart D) →
      ((i : ℕ) → i < length g.nodes → Absorbs a (t.data_of (find_class found i)) (s.data_of (find_class g.found i))) →
      AllDifferent t.pending → ((o : ℕ) → Contains waiting o → Contains t.pending o) → ((o : ℕ) → Contains s.pending o → Contains t.pending o) →
      ((o : ℕ) → Contains t.pending o → Contains (sources g.rows) o) →
      ((r : Row) → Contains g.rows r → ¬ Contains t.pending r.source → made a t r.shape ≡ made a s r.shape) →
      GoesDown a s t → ((i : ℕ) → Contains t.changed i → i < length g.nodes) → HasData a (record g { found = found; waiting = waiting }) t
  has-after g s sane has found waiting t classes once whole kept from same down range = record {
    waits_once = once;
    waits_whole = whole;
    waits_for_row = from;
    absorbs_made = λ r k n.
        let old : Absorbs a (s.data_of (row_class g r)) (made a s r.shape) = has.absorbs_made r k (λ j. n (kept r.source j)) in
        absorbs-then a law (t.data_of (find_class found r.source)) (s.data_of (row_class g r)) (made a t r.shape) (classes r.source (sane.filed.each r k).in_range)
        (subst (Absorbs a (s.data_of (row_class g r))) (sym (same r k n)) old);
    changed_once = down.once has.changed_once;
    changed_in_range = range;
  }

  -- along a link
  link-carried : (g : State) → Sane g → (s : DataPart D) → HasData a g s → (e : Equation) (n moment : ℕ) → CanLink g.nodes g.found e → IsLater g.found moment → StandsAt g n e →
      (w : List ℕ) → HasTouched g e.left w → (t : DataPart D) → CarriesLink a g e.left e.right s t → HasCarried g s (linked_state g e n moment w) t
  link-carried g sane s has e n moment can later at w touched t (pending, more, merges) =
      let m : DataPart D = record s { pending = pending } in
      let k : HasMerged a law g m e.right (s.data_of e.left) t = merged a law merges in
      let found : List Entry = with_link g.nodes g.found e n moment in
      let linked = sane.sound.linked in
      let classes : (i : ℕ) → i < length g.nodes → Absorbs a (t.data_of (find_class found i)) (s.data_of (find_class g.found i)) =
      λ i h. elim (linked-class g.nodes g.found linked e n moment can later i h) [
        | inl r ↦ subst (λ x. Absorbs a (t.data_of (find_class found i)) (s.data_of x)) (sym r.0) (subst (λ x. Absorbs a (t.data_of x) (s.data_of e.left)) (sym r.1) k.takes)
        | inr r ↦ subst (λ x. Absorbs a (t.data_of x) (s.data_of (find_class g.found i))) (sym r.1) (k.down.lower (find_class g.found i))
      ] in
      let down : GoesDown a s t = down-then a law s m t (down-same a law s pending) k.down in
      record {
        has = has-after g s sane has found w t classes (k.once more.once)
            (λ o c. k.kept o (elim (touched.from o c) [
              | inl j ↦ more.kept o (has.waits_whole o j)
              | inr j ↦ subst (Contains pending) j.3 (more.over j.0 j.1 j.2)
            ]))
            (λ o c. k.kept o (more.kept o c))
            (λ o c. elim (k.from o c) [
              | inl j ↦ elim (more.from o j) [
                | inl i ↦ has.waits_for_row o i
                | inr i ↦ subst (Contains (sources g.rows)) i.3 (source-in g.rows i.0 i.1)
              ]
              | inr j ↦ j
            ])
            k.same_made
            down
            (λ i c. elim (k.noted_from i c) [
              | inl j ↦ has.changed_in_range i j
              | inr q ↦ subst (λ x. x < length g.nodes) (sym q) can.over.right
            ]);
        classes = classes;
        down = down;
        falls =
            let l : size (linked_state g e n moment w) < size g = link-size g sane e n moment can later at.0 at.1 w touched in
            let x : Entry = linking.new_entry g.nodes g.found linked e n moment can later in
            let i : length g.found ≡ length g.nodes = linked.entries in
            let j : e.left < length g.nodes = can.over.left in
            let r : e.right < length g.nodes = can.over.right in
            let q : heights_from a s.data_of 0 found + height_at a s.data_of e.left (entry_at g.found e.left) ≡ heights_from a s.data_of 0 g.found + height_at a s.data_of e.left x =
            heights-set a s.data_of 0 e.left e.left g.found x (omega arith) (omega arith) in
            let z : height_at a s.data_of e.left x ≡ 0 = height-dead a s.data_of e.left x (λ p. can.different (sym p)) in
            let live : IsLive found e.right = live-stays g.nodes g.found linked e.left x (link-replaces g.nodes g.found linked e n moment can later) e.right (λ p. can.different (sym p)) can.right_lives in
            let y : length found ≡ length g.nodes = (linking.link-linked g.nodes g.found linked e n moment can later).entries in
            elim (k.falls found (omega arith) live) [
              | inl f ↦ inl (omega arith)
              | inr f ↦ let b : heights_from a t.data_of 0 found ≡ heights_from a s.data_of 0 found = ap (λ (p : DataPart D). heights_from a p.data_of 0 found) f in inl (omega arith)
            ];
      }

  -- after slots are dropped
  module _ (g : State) (sane : Sane g) (s : DataPart D) (has : HasData a g s) (c : ℕ) (slots : List ℕ) (n : ℕ) (can : CanDrop g.nodes g.found c slots) (w : List ℕ) (touched : HasTouched g c w)
      (pending : List ℕ) (more : HasTouched (with_pending g s) c pending) where
    abbrev m : DataPart D
    m = record s { pending = pending }

    abbrev dropped : State
    dropped = dropped_state g c slots n w

    drop-classes : DataGoesDown a g s dropped m
    drop-classes i h =
        subst (λ x. Absorbs a (s.data_of x) (s.data_of (find_class g.found i))) (sym (dropped-class g.nodes g.found sane.sound.linked c slots n can i h)) (absorbs-same a law (s.data_of (find_class g.found i)))

    drop-has : HasData a dropped m
    drop-has = has-after g s sane has (with_slots g.found c slots n) w m drop-classes more.once
        (λ o k. elim (touched.from o k) [
          | inl j ↦ more.kept o (has.waits_whole o j)
          | inr j ↦ subst (Contains pending) j.3 (more.over j.0 j.1 j.2)
        ])
        more.kept
        (λ o k. elim (more.from o k) [
          | inl i ↦ has.waits_for_row o i
          | inr i ↦ subst (Contains (sources g.rows)) i.3 (source-in g.rows i.0 i.1)
        ])
        (λ r k j. refl)
        (down-same a law s pending)
        has.changed_in_range

    drop-heights : heights_from a s.data_of 0 dropped.found ≡ heights_from a s.data_of 0 g.found
    drop-heights =
        let x : Entry = record { class = c; pairs = identity slots; proof = n; died = 0 } in
        let i : length g.found ≡ length g.nodes = sane.sound.linked.entries in
        let j : c < length g.nodes = can.in_range in
        let q : heights_from a s.data_of 0 dropped.found + height_at a s.data_of c (entry_at g.found c) ≡ heights_from a s.data_of 0 g.found + height_at a s.data_of c x =
        heights-set a s.data_of 0 c c g.found x (omega arith) (omega arith) in
        let y : height_at a s.data_of c x ≡ a.height (s.data_of c) = height-live a s.data_of c x refl in
        let z : height_at a s.data_of c (entry_at g.found c) ≡ a.height (s.data_of c) = height-live a s.data_of c (entry_at g.found c) can.lives in
        omega arith

    -- and then the rest of the union
    then-carried : size dropped < size g → (h : State) (t : DataPart D) → HasCarried dropped m h t → HasCarried g s h t
    then-carried l h t k = record {
      has = k.has;
      classes = λ i b. absorbs-then a law (t.data_of (find_class h.found i)) (s.data_of (find_class dropped.found i)) (s.data_of (find_class g.found i)) (k.classes i b) (drop-classes i b);
      down = down-then a law s m t (down-same a law s pending) k.down;
      falls =
          let e : heights_from a s.data_of 0 dropped.found ≡ heights_from a s.data_of 0 g.found = drop-heights in
          elim k.falls [
            | inl f ↦ inl (omega arith)
            | inr f ↦
                let x : size h ≡ size dropped = ap (size_from 0) f.0 in
                let y : heights_from a t.data_of 0 h.found ≡ heights_from a s.data_of 0 dropped.found = λ i. heights_from a (f.2 i).data_of 0 (f.0 i) in
                inl (omega arith)
          ];
    }

  -- along a union
  pub carried : (p : ℕ) {g h : State} (u : Unites p g h) → Sane g → p < length g.proofs → (s t : DataPart D) → HasData a g s → Carries a u s t → HasCarried g s h t
  carried p (finds_alike {g = g} l i) sane k s t has c = same-carried g s t has c
  carried p (proves {g = g} {h = h} proofs grow u) sane k s t has c =
      let on : GoesOn g (with_proofs g proofs) = proofs-go_on g sane proofs grow in
      let r : HasCarried (with_proofs g proofs) s h t = carried p u (proofs-sane g sane proofs grow) (on.proofs p k).0 s t (has-proofs g s has (with_proofs g proofs) refl refl refl refl) c in
      record { has = r.has; classes = r.classes; down = r.down; falls = r.falls }
  carried p (drops_left {g = g} {h = h} n x w used lacks at touched u) sane k s t has (pending, more, c) =
      let e : Equation = found_entry g p in
      let kept : List ℕ = keys_of e.pairs in
      let can = can_drop-left g sane p k in
      let d : State = dropped_state g e.left kept n w in
      let r : HasCarried d (record s { pending = pending }) h t =
      carried p u (drop-sane g sane e.left kept n can at.0 at.1 w touched) k (record s { pending = pending }) t (drop-has g sane s has e.left kept n can w touched pending more) c in
      then-carried g sane s has e.left kept n can w touched pending more (drop-size g sane e.left kept n can at.0 at.1 w touched x used lacks) h t r
  carried p (drops_right {g = g} {h = h} n x w all used lacks at touched u) sane k s t has (pending, more, c) =
      let e : Equation = found_entry g p in
      let kept : List ℕ = keys_of (turned_equation g.nodes e).pairs in
      let can = can_drop-right g sane p k in
      let d : State = dropped_state g e.right kept n w in
      let r : HasCarried d (record s { pending = pending }) h t =
      carried p u (drop-sane g sane e.right kept n can at.0 at.1 w touched) k (record s { pending = pending }) t (drop-has g sane s has e.right kept n can w touched pending more) c in
      then-carried g sane s has e.right kept n can w touched pending more (drop-size g sane e.right kept n can at.0 at.1 w touched x used (λ b. lacks (back-key g sane p k x b))) h t r
  carried p (left_dies {g = g} n moment w differ all at later touched) sane k s t has c =
      link-carried g sane s has (found_entry g p) n moment (can_link-left g sane p k differ all) later at w touched t c
  carried p (right_dies {g = g} n moment w differ all at later touched) sane k s t has c =
      link-carried g sane s has (turned_equation g.nodes (found_entry g p)) n moment (can_link-right g sane p k differ all) later at w touched t c
  carried p (lists {g = g} n same all moves new at) sane k s t has c =
      let r : HasCarried g s g t = same-carried g s t has c in
      record { has = has-proofs g t r.has _ refl refl refl refl; classes = r.classes; down = r.down; falls = r.falls }
  carried p (is_listed {g = g} y same all there is) sane k s t has c = same-carried g s t has c
