-- From rest to rest with data: a value is merged, a class is made, and an assertion.
use Rattle.std.proofs.Common.{◌≡◌, ◌≢◌, ℕ, suc, ◌+◌, ◌<◌, ◌≤◌, List, [], ◌∷◌, length, sym, ◌∙◌, ap, refl, subst, inl, inr, arith}
use Rattle.std.specs.Prelude.{Contains}
use Rattle.std.proofs.lemmas.Bool.{cases_eq}
use Rattle.std.proofs.lemmas.List.{length-append}
use Rattle.slotted_lists.proofs.Contained.{Contains-nil}
use Rattle.slotted_theory.specs.Nameless.{DTerm}
use Rattle.slotted_model.specs.Applied.{Applied}
use Rattle.slotted_model.specs.Classes.{IsFull}
use Rattle.slotted_model.specs.Find.{find_class}
use Rattle.slotted_model.specs.Growth.{IsNew}
use Rattle.slotted_model.specs.ProofList.{ProofEntry, explicit, equation_of, equation_at}
use Rattle.slotted_model.specs.State.{State}
use Rattle.slotted_model.specs.Rest.{IsAligned, Sane, AtRest, size_from}
use Rattle.slotted_model.specs.Changes.{HasUnited, with_proofs}
use Rattle.slotted_model.specs.Rebuild.{acts}
use Rattle.slotted_model.specs.Adding.{with_new_class, with_new_row, with_assertion, Adds, Asserts}
use Rattle.slotted_model.specs.Adding as plain
use Rattle.slotted_model.specs.Extraction.{row_class}
use Rattle.slotted_model.specs.Sessions.{nothing}
use Rattle.slotted_model.proofs.Rebuilding.Adding.{class-sane, last-in_range, filed-ready, adds}
use Rattle.slotted_model.proofs.Rebuilding.Asserting.{entry-sane, can_assert, asserts, asserting-ends, adding-ends, nothing-rests}
use Rattle.slotted_model.proofs.Finds.Entering.{longer-length}
use Rattle.slotted_model.proofs.Finds.Finding.{leads, found-in_range, found-live}
use Rattle.slotted_model.proofs.Rebuilding.GrowingLists.{proofs-sane}
use Rattle.slotted_model.proofs.Rebuilding.Touching.{with_waiting}
use Rattle.slotted_model.proofs.Rebuilding.Turning.{turned}
use Rattle.slotted_model.proofs.Rebuilding.Unions.{unites}
use Rattle.slotted_model_analyses.specs.Analysis.{Analysis, IsMerge, Absorbs}
use Rattle.slotted_model_analyses.specs.DataPart.{DataPart, made, HasNoted, Merges, absorbed, lowered, takes, RunsWithData, starts, takes_turn, takes_data, takes_act, HasData, heights_from, size_with_data, GoesDown, DataGoesDown, RestsWithData}
use Rattle.slotted_model_analyses.specs.DataWrites.{MergesInto, merges_into, made_of_found, with_new_data, with_new_pending, AddsWithData, joins_row, files_row, AssertsWithData, is_new, stands, HasNotedAll}
use Rattle.slotted_model_analyses.proofs.Absorbing.{absorbs-same, absorbs-then}
use Rattle.slotted_model_analyses.proofs.Heights.{with_data-other}
use Rattle.slotted_model_analyses.proofs.Merging.{noted-is, down-then, HasMerged, merged, merges-by}
use Rattle.slotted_model_analyses.proofs.Carrying.{HasCarried, has-proofs, carried}
use Rattle.slotted_model_analyses.proofs.Counts.{below, HasRunWithData, run-with}
use Rattle.slotted_model_analyses.proofs.Reaching.{carry, DoneWithData, reaching}
use Rattle.slotted_model_analyses.proofs.Growing.{class-has, row-has, old-classes, new-class, new-data}

module _ {D : Type 0} (a : Analysis D) where
  -- a run from rest in which only data waits leaves the graph
  pub graph-stays : {f : State} {s : DataPart D} {n : ℕ} {h : State} {t : DataPart D} → AtRest f → RunsWithData a f s n h t → h ≡ f
  graph-stays rest starts = refl
  graph-stays {f = f} rest (takes_turn {g = g} r k x) =
      let e : g ≡ f = graph-stays rest r in
      let w : 0 < length g.waiting = (turned k (subst Sane (sym e) rest.sane)).waited in
      let z : length g.waiting ≡ 0 = ap (λ (x : State). length x.waiting) e ∙ ap (λ (xs : List ℕ). length xs) rest.nothing_waits in
      absurd (omega arith)
  graph-stays rest (takes_data r k) = graph-stays rest r
  graph-stays {f = f} rest (takes_act {g = g} r (acts y c n u) x) =
      let e : g ≡ f = graph-stays rest r in
      absurd (n (subst (λ (x : State). Contains x.symmetries y → IsAligned x y) (sym e) (rest.aligned y) c))

  -- and from rest with data there is nothing to do
  pub all-stays : {f : State} {s : DataPart D} {n : ℕ} {h : State} {t : DataPart D} → RestsWithData a f s → RunsWithData a f s n h t → (h ≡ f) × (t ≡ s)
  all-stays x starts = (refl, refl)
  all-stays {f = f} x (takes_turn {g = g} r k y) =
      let e : g ≡ f = graph-stays x.rest r in
      let w : 0 < length g.waiting = (turned k (subst Sane (sym e) x.rest.sane)).waited in
      let z : length g.waiting ≡ 0 = ap (λ (x : State). length x.waiting) e ∙ ap (λ (xs : List ℕ). length xs) x.rest.nothing_waits in
      absurd (omega arith)
  all-stays {s = s} x (takes_data {t = t} r (takes q there waits alone merges)) =
      let e : t ≡ s = (all-stays x r).1 in
      absurd (Contains-nil q.source (subst (λ w. Contains w q.source) (ap (λ (p : DataPart D). p.pending) e ∙ x.nothing_waits) waits))
  all-stays {f = f} x (takes_act {g = g} r (acts y c n u) z) =
      let e : g ≡ f = graph-stays x.rest r in
      absurd (n (subst (λ (x : State). Contains x.symmetries y → IsAligned x y) (sym e) (x.rest.aligned y) c))

  pub absorbed-stays : {g : State} {s : DataPart D} {c : ℕ} {v : D} {t : DataPart D} → Absorbs a (s.data_of c) v → Merges a g s c v t → t ≡ s
  absorbed-stays p (absorbed e) = refl
  absorbed-stays p (lowered pending changed n touched noted) = absurd (n p)

  pub nothing-rests-with : (δ : ℕ → D) → RestsWithData a nothing (record { data_of = δ; pending = []; changed = [] })
  nothing-rests-with δ = record {
    rest = nothing-rests;
    has = record {
      waits_once = tt;
      waits_whole = λ o c. c;
      waits_for_row = λ o c. absurd (Contains-nil o c);
      absorbs_made = λ r c n. absurd (Contains-nil r c);
      changed_once = tt;
      changed_in_range = λ i c. absurd (Contains-nil i c);
    };
    nothing_waits = refl;
  }

module _ {D : Type 0} (a : Analysis D) (law : IsMerge D a) where
  -- what does not wait absorbs what it makes, also after a value was merged into the data of a class
  pub merge-has : (g : State) (s : DataPart D) → HasData a g s → (c : ℕ) → c < length g.nodes → (v : D) (t : DataPart D) → Merges a g s c v t → HasData a g t
  merge-has g s has c h v t m =
      let k : HasMerged a law g s c v t = merged a law m in
      record {
        waits_once = k.once has.waits_once;
        waits_whole = λ o j. k.kept o (has.waits_whole o j);
        waits_for_row = λ o j. elim (k.from o j) [
          | inl i ↦ has.waits_for_row o i
          | inr i ↦ i
        ];
        absorbs_made = λ r j n.
            absorbs-then a law (t.data_of (row_class g r)) (s.data_of (row_class g r)) (made a t r.shape) (k.down.lower (row_class g r))
            (subst (Absorbs a (s.data_of (row_class g r))) (sym (k.same_made r j n)) (has.absorbs_made r j (λ w. n (k.kept r.source w))));
        changed_once = k.down.once has.changed_once;
        changed_in_range = λ i j. elim (k.noted_from i j) [
          | inl y ↦ has.changed_in_range i y
          | inr e ↦ subst (λ x. x < length g.nodes) (sym e) h
        ];
      }

  module _ (g : State) (s : DataPart D) (x : RestsWithData a g s) where
    class-below : (i : ℕ) → i < length g.nodes → find_class g.found i < length g.nodes
    class-below i h = found-in_range g.nodes g.found (leads g.nodes g.found x.rest.sane.sound.linked) i h

    merging-can : (i : ℕ) → i < length g.nodes → (v : D) → (h : State) × (t : DataPart D) × MergesInto a g s i v h t
    merging-can i h v =
        let m = merges-by a law g s (find_class g.found i) v x.has.waits_once x.has.changed_once in
        let d : DoneWithData a law g x.rest.sane m.0 (merge-has g s x.has (find_class g.found i) (class-below i h) v m.0 m.1) =
        reaching a law g x.rest.sane m.0 (merge-has g s x.has (find_class g.found i) (class-below i h) v m.0 m.1) in
        (d.1, d.2, merges_into m.1 d.3 d.4)

    merging-ends : (i : ℕ) → i < length g.nodes → (v : D) (h : State) (t : DataPart D) → MergesInto a g s i v h t →
        (h ≡ g) × RestsWithData a h t × Absorbs a (t.data_of (find_class h.found i)) v × GoesDown a s t × (size_with_data a h t ≤ size_with_data a g s)
    merging-ends i l v h t (merges_into {n = n} {m = m} merges r left) =
        let k : HasMerged a law g s (find_class g.found i) v m = merged a law merges in
        let y : HasRunWithData a law g x.rest.sane m n h t = run-with a law g x.rest.sane (merge-has g s x.has (find_class g.found i) (class-below i l) v m merges) r in
        let e : h ≡ g = graph-stays a x.rest r in (
          e,
          record { rest = subst AtRest (sym e) x.rest; has = y.has; nothing_waits = left.1 },
          absorbs-then a law (t.data_of (find_class h.found i)) (m.data_of (find_class g.found i)) v (y.classes i l) k.takes,
          down-then a law s m t k.down y.down,
          let c : find_class g.found i < length g.nodes = class-below i l in
              let z : length g.found ≡ length g.nodes = x.rest.sane.sound.linked.entries in
              let q : size_with_data a h t ≤ size_with_data a g m = y.smaller in
              elim (k.falls g.found (omega arith) (found-live g.nodes g.found (leads g.nodes g.found x.rest.sane.sound.linked) i l)) [
                | inl f ↦ omega arith
                | inr f ↦ let w : heights_from a m.data_of 0 g.found ≡ heights_from a s.data_of 0 g.found = ap (λ (p : DataPart D). heights_from a p.data_of 0 g.found) f in omega arith
              ],
        )

  merging-again : (h : State) (t : DataPart D) → RestsWithData a h t → (i : ℕ) (v : D) → Absorbs a (t.data_of (find_class h.found i)) v → (k : State) (u : DataPart D) → MergesInto a h t i v k u → (k ≡ h) × (u ≡ t)
  merging-again h t x i v p k u (merges_into {m = m} merges r left) =
      let e : m ≡ t = absorbed-stays a p merges in
      let y = all-stays a (subst (RestsWithData a h) (sym e) x) r in
      (y.0, y.1 ∙ e)

  pub merging : (g : State) (s : DataPart D) → RestsWithData a g s → (i : ℕ) → i < length g.nodes → (v : D) →
      ((h : State) × (t : DataPart D) × MergesInto a g s i v h t)
      × ((h : State) (t : DataPart D) → MergesInto a g s i v h t →
      (h ≡ g) × RestsWithData a h t × Absorbs a (t.data_of (find_class h.found i)) v × GoesDown a s t × (size_with_data a h t ≤ size_with_data a g s)
      × ((k : State) (u : DataPart D) → MergesInto a h t i v k u → (k ≡ h) × (u ≡ t)))
  merging g s x i l v = (
    merging-can g s x i l v,
    λ h t m. let y = merging-ends g s x i l v h t m in (y.0, y.1, y.2, y.3, y.4, merging-again h t y.1 i v y.2),
  )

  -- a new class
  module _ (g : State) (s : DataPart D) (x : RestsWithData a g s) (c : DTerm) (new : IsNew g.nodes c) where
    abbrev newer : State
    newer = with_new_class g c

    abbrev i : ℕ
    i = length g.nodes

    newer-sane : Sane newer
    newer-sane = class-sane g x.rest.sane c new

    -- the run after the class has its row, or is united
    after-run : (f h : State) (m t : DataPart D) (changed : List ℕ) → HasNoted i s.changed changed → (sane : Sane f) → HasData a f m → DataGoesDown a newer (with_new_data a g s c changed) f m → GoesDown a (with_new_data a g s c changed) m →
        f.nodes ≡ newer.nodes → {n : ℕ} → RunsWithData a f m n h t → (AtRest h) → h.nodes ≡ newer.nodes → t.pending ≡ [] →
        RestsWithData a h t × DataGoesDown a g s h t × Absorbs a (t.data_of (find_class h.found i)) (made_of_found a g s c) × Contains t.changed i × HasNotedAll g s h t
    after-run f h m t changed noted sane has classes down nodes {n} r rest last left =
        let d : DataPart D = with_new_data a g s c changed in
        let y : HasRunWithData a law f sane m n h t = run-with a law f sane has r in
        let l : i < length newer.nodes = last-in_range g x.rest.sane c new in
        let e : length f.nodes ≡ length newer.nodes = ap length nodes in
        let goes : GoesDown a d t = down-then a law d m t down y.down in
        let there : Contains t.changed i = y.down.kept i (down.kept i noted.has) in
        let both : (k : ℕ) → k < length newer.nodes → Absorbs a (t.data_of (find_class h.found k)) (d.data_of (find_class newer.found k)) =
        λ k b. absorbs-then a law (t.data_of (find_class h.found k)) (m.data_of (find_class f.found k)) (d.data_of (find_class newer.found k)) (y.classes k (omega arith)) (classes k b) in (
          record { rest = rest; has = y.has; nothing_waits = left },
          λ k b. absorbs-then a law (t.data_of (find_class h.found k)) (d.data_of (find_class newer.found k)) (s.data_of (find_class g.found k)) (both k (omega arith))
              (old-classes a g x.rest.sane s c new changed noted law k b),
          subst (Absorbs a (t.data_of (find_class h.found i))) (ap d.data_of (new-class a g x.rest.sane s c new changed noted) ∙ new-data a g x.rest.sane s c new changed noted) (both i l),
          there,
          record {
            kept = λ k b. y.down.kept k (down.kept k (noted.kept k b));
            noted = λ k b free. elim (cases_eq k i) [
              | inl q ↦ absurd (free (subst (Contains t.changed) (sym q) there))
              | inr n ↦
                  let x : length h.nodes ≡ length newer.nodes = ap length last in
                  let z : length newer.nodes ≡ i + 1 = length-append g.nodes (c ∷ []) in (
                    omega arith,
                    elim (law.decided (t.data_of k) (d.data_of k)) [
                      | inl q ↦ q ∙ with_data-other s.data_of i (made_of_found a g s c) k n
                      | inr m ↦ absurd (free (goes.noted k m))
                    ],
                  )
            ];
          },
        )

    abbrev pub HasAddedData : State → DataPart D → Type 0
    HasAddedData h t = Adds g c h × RestsWithData a h t × DataGoesDown a g s h t × Absorbs a (t.data_of (find_class h.found i)) (made_of_found a g s c) × Contains t.changed i × HasNotedAll g s h t

    adding-with : (h : State) (t : DataPart D) → AddsWithData a g s c h t → HasAddedData h t
    adding-with h t (joins_row {f = f} {m = m} changed proofs p r noted grow there same congruence u carries run left) =
        let d : DataPart D = with_new_data a g s c changed in
        let ready : State = with_proofs newer proofs in
        let sane : Sane ready = proofs-sane newer newer-sane proofs grow in
        let w : HasUnited p ready f = unites p u sane congruence.stands.0 in
        let has : HasData a ready d = has-proofs a law newer d (class-has a g x.rest.sane s c new changed noted x.has) ready refl refl refl refl in
        let k : HasCarried a law ready d f m = carried a law p u sane congruence.stands.0 d m has carries in
        let added : Adds g c h = plain.joins_row proofs p r grow there same congruence u (below a run).2 left.0 in
        let z = after-run f h m t changed noted w.sane k.has k.classes k.down w.same_nodes run (adds g x.rest c new h added).rest (adds g x.rest c new h added).nodes left.1 in
        (added, z.0, z.1, z.2, z.3, z.4)
    adding-with h t (files_row changed noted alone run left) =
        let d : DataPart D = with_new_data a g s c changed in
        let f : State = with_new_row newer i in
        let sane : Sane f = (filed-ready g x.rest.sane c new x.rest.represents alone).0 in
        let has : HasData a f (with_new_pending a g s c changed) = row-has a g x.rest.sane s c new changed noted x.has in
        let added : Adds g c h = plain.files_row alone (below a run).2 left.0 in
        let z = after-run f h (with_new_pending a g s c changed) t changed noted sane has (λ k b. absorbs-same a law (d.data_of (find_class newer.found k)))
        (record { lower = λ k. absorbs-same a law (d.data_of k); once = λ b. b; kept = λ k b. b; noted = λ k b. absurd (b refl); from = λ k b. inl b })
        refl run (adds g x.rest c new h added).rest (adds g x.rest c new h added).nodes left.1 in
        (added, z.0, z.1, z.2, z.3, z.4)

    -- a class can be made
    adding-from : {h : State} → Adds g c h → (k : State) × (t : DataPart D) × AddsWithData a g s c k t
    adding-from (plain.joins_row {f = f} proofs p r grow there same congruence u run left) =
        let noted = noted-is i s.changed x.has.changed_once in
        let changed : List ℕ = with_waiting i s.changed in
        let d : DataPart D = with_new_data a g s c changed in
        let ready : State = with_proofs newer proofs in
        let sane : Sane ready = proofs-sane newer newer-sane proofs grow in
        let w : HasUnited p ready f = unites p u sane congruence.stands.0 in
        let has : HasData a ready d = has-proofs a law newer d (class-has a g x.rest.sane s c new changed noted x.has) ready refl refl refl refl in
        let m = carry a law p u d has.waits_once has.changed_once in
        let k : HasCarried a law ready d f m.0 = carried a law p u sane congruence.stands.0 d m.0 has m.1 in
        let z : DoneWithData a law f w.sane m.0 k.has = reaching a law f w.sane m.0 k.has in
        (z.1, z.2, joins_row {n = z.0} {f = f} {h = z.1} {m = m.0} {t = z.2} changed proofs p r noted grow there same congruence u m.1 z.3 z.4)
    adding-from (plain.files_row alone run left) =
        let noted = noted-is i s.changed x.has.changed_once in
        let changed : List ℕ = with_waiting i s.changed in
        let f : State = with_new_row newer i in
        let sane : Sane f = (filed-ready g x.rest.sane c new x.rest.represents alone).0 in
        let has : HasData a f (with_new_pending a g s c changed) = row-has a g x.rest.sane s c new changed noted x.has in
        let z : DoneWithData a law f sane (with_new_pending a g s c changed) has = reaching a law f sane (with_new_pending a g s c changed) has in
        (z.1, z.2, files_row changed noted alone z.3 z.4)

    pub adding : ((h : State) × (t : DataPart D) × AddsWithData a g s c h t) × ((h : State) (t : DataPart D) → AddsWithData a g s c h t → HasAddedData h t)
    adding = (adding-from (adding-ends g x.rest c new).1, adding-with)

  -- an assertion
  module _ (g : State) (s : DataPart D) (x : RestsWithData a g s) (y z : Applied) (fy : IsFull g.nodes y) (fz : IsFull g.nodes z) where
    abbrev entry : ProofEntry
    entry = record { equation = equation_of y z; step = explicit }

    abbrev more : State
    more = with_assertion g (equation_of y z)

    more-sane : ((q : ℕ) → q < length g.proofs → equation_at g.proofs q ≢ equation_of y z) → Sane more
    more-sane new = entry-sane g x.rest.sane entry (can_assert g y z fy fz new)

    more-proofs : length g.proofs < length more.proofs
    more-proofs = let e : length more.proofs ≡ suc (length g.proofs) = longer-length g.proofs entry in omega arith

    more-has : HasData a more s
    more-has = has-proofs a law g s x.has more refl refl refl refl

    abbrev pub HasAssertedData : State → DataPart D → Type 0
    HasAssertedData h t = Asserts g y z h × RestsWithData a h t × DataGoesDown a g s h t × GoesDown a s t × (size_with_data a h t ≤ size_with_data a g s)
        × Absorbs a (t.data_of (find_class h.found y.0)) (s.data_of (find_class g.found y.0)) × Absorbs a (t.data_of (find_class h.found y.0)) (s.data_of (find_class g.found z.0))

    -- after the union by an entry from a graph with the finds of g
    after-union : (k f h : State) (m t : DataPart D) → k.nodes ≡ g.nodes → k.found ≡ g.found → HasCarried a law k s f m → (sane : Sane f) → f.nodes ≡ k.nodes → {n : ℕ} → RunsWithData a f m n h t → t.pending ≡ [] → Asserts g y z h → HasAssertedData h t
    after-union k f h m t nodes found c sane same {n} run left asserted =
        let r : HasRunWithData a law f sane m n h t = run-with a law f sane c.has run in
        let N : length f.nodes ≡ length g.nodes = ap length same ∙ ap length nodes in
        let M : length k.nodes ≡ length g.nodes = ap length nodes in
        let down : DataGoesDown a g s h t =
        λ i b. absorbs-then a law (t.data_of (find_class h.found i)) (m.data_of (find_class f.found i)) (s.data_of (find_class g.found i)) (r.classes i (omega arith))
        (subst (λ e. Absorbs a (m.data_of (find_class f.found i)) (s.data_of (find_class e i))) found (c.classes i (omega arith))) in
        let w = asserts g x.rest y z fy fz h asserted in (
          asserted,
          record { rest = w.rest; has = r.has; nothing_waits = left },
          down,
          down-then a law s m t c.down r.down,
          let p : size_with_data a h t ≤ size_with_data a f m = r.smaller in
              let q : size_with_data a k s ≡ size_with_data a g s = λ i. size_from 0 (found i) + heights_from a s.data_of 0 (found i) in
              elim c.falls [
                | inl l ↦ omega arith
                | inr e ↦
                    let b : size_with_data a f m ≡ size_with_data a k s = λ i. size_from 0 (e.0 i) + heights_from a (e.2 i).data_of 0 (e.0 i) in
                    omega arith
              ],
          down y.0 fy.in_range,
          subst (λ i. Absorbs a (t.data_of i) (s.data_of (find_class g.found z.0))) (sym w.together.class) (down z.0 fz.in_range),
        )

    asserting-with : (h : State) (t : DataPart D) → AssertsWithData a g s y z h t → HasAssertedData h t
    asserting-with h t (is_new {f = f} {m = m} new u carries run left) =
        let k : HasCarried a law more s f m = carried a law (length g.proofs) u (more-sane new) more-proofs s m more-has carries in
        let w : HasUnited (length g.proofs) more f = unites (length g.proofs) u (more-sane new) more-proofs in
        after-union more f h m t refl refl k w.sane w.same_nodes run left.1 (plain.is_new new u (below a run).2 left.0)
    asserting-with h t (stands {f = f} {m = m} p at u carries run left) =
        let k : HasCarried a law g s f m = carried a law p u x.rest.sane at.0 s m x.has carries in
        let w : HasUnited p g f = unites p u x.rest.sane at.0 in
        after-union g f h m t refl refl k w.sane w.same_nodes run left.1 (plain.stands p at u (below a run).2 left.0)

    asserting-from : {h : State} → Asserts g y z h → (k : State) × (t : DataPart D) × AssertsWithData a g s y z k t
    asserting-from (plain.is_new {f = f} new u run left) =
        let m = carry a law (length g.proofs) u s x.has.waits_once x.has.changed_once in
        let k : HasCarried a law more s f m.0 = carried a law (length g.proofs) u (more-sane new) more-proofs s m.0 more-has m.1 in
        let w : HasUnited (length g.proofs) more f = unites (length g.proofs) u (more-sane new) more-proofs in
        let d : DoneWithData a law f w.sane m.0 k.has = reaching a law f w.sane m.0 k.has in
        (d.1, d.2, is_new new u m.1 d.3 d.4)
    asserting-from (plain.stands {f = f} p at u run left) =
        let m = carry a law p u s x.has.waits_once x.has.changed_once in
        let k : HasCarried a law g s f m.0 = carried a law p u x.rest.sane at.0 s m.0 x.has m.1 in
        let w : HasUnited p g f = unites p u x.rest.sane at.0 in
        let d : DoneWithData a law f w.sane m.0 k.has = reaching a law f w.sane m.0 k.has in
        (d.1, d.2, stands p at u m.1 d.3 d.4)

    pub asserting : ((h : State) × (t : DataPart D) × AssertsWithData a g s y z h t) × ((h : State) (t : DataPart D) → AssertsWithData a g s y z h t → HasAssertedData h t)
    asserting = (asserting-from (asserting-ends g x.rest y z fy fz).1, asserting-with)
