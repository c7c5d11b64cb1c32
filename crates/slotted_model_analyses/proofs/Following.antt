-- Data along turns, turns for data alone, and acts: each lowers the size with heights, or what waits.
use Rattle.std.proofs.Common.{◌≡◌, ◌≢◌, ℕ, suc, ◌+◌, ◌<◌, List, length, sym, ◌∙◌, ap, refl, subst, inl, inr, arith}
use Rattle.std.specs.Prelude.{◌⊎◌, Contains, not, nat_eq}
use Rattle.std.proofs.lemmas.Bool.{cases_eq, eq-eqb, ne_eqb, false≢true}
use Rattle.slotted_model.specs.Find.{find_class}
use Rattle.slotted_model.specs.State.{Row, State, sources}
use Rattle.slotted_model.specs.Rest.{Sane, size, size_from}
use Rattle.slotted_model.specs.Changes.{with_proofs}
use Rattle.slotted_model.specs.Rebuild.{without, without_row, row_for, removed_state, refiled_state, Turn, enters, narrows, unites_parents, refiles, Acts, acts}
use Rattle.slotted_model.specs.Extraction.{row_class}
use Rattle.slotted_model.proofs.Rebuilding.AfterUnions.{lacking-falls}
use Rattle.slotted_model.proofs.Correspondences.Listing.{different-filter}
use Rattle.slotted_model.proofs.Finds.Finding.{leads, found-in_range, found-live}
use Rattle.slotted_model.proofs.Rebuilding.GrowingLists.{proofs-sane}
use Rattle.slotted_model.proofs.Rebuilding.Lacking.{narrow-lacks, unaligned-lacks}
use Rattle.slotted_model.proofs.Rebuilding.Refiling.{filter-keeps, filter-from, without-keeps, without-from, without-length, sources-with_row, with_row-from}
use Rattle.slotted_model.proofs.Rebuilding.Rows.{source-in, of_source, one_row}
use Rattle.slotted_model_analyses.specs.Analysis.{Analysis, IsMerge, Absorbs}
use Rattle.slotted_model_analyses.specs.DataPart.{DataPart, made, taken, Merges, Follows, FollowsAct, TakesData, takes, HasData, heights_from, size_with_data, GoesDown, DataGoesDown}
use Rattle.slotted_model_analyses.proofs.Absorbing.{absorbs-then}
use Rattle.slotted_model_analyses.proofs.Merging.{down-then, down-same, HasMerged, merged}
use Rattle.slotted_model_analyses.proofs.Carrying.{HasCarried, has-proofs, carried}

-- the sources of the rows that stay
source-stays : (o x : ℕ) (rows : List Row) → Contains (sources rows) x → x ≢ o → Contains (sources (without_row o rows)) x
source-stays o x rows c n =
    let r = of_source rows x c in
    let m : r.0.source ≢ o = λ e. n (sym r.2 ∙ e) in
    let k : Contains (without_row o rows) r.0 = filter-keeps (λ (q : Row). not (nat_eq q.source o)) rows r.0 r.1 (ap not (ne_eqb r.0.source o m)) in
    subst (Contains (sources (without_row o rows))) r.2 (source-in (without_row o rows) r.0 k)

module _ {D : Type 0} (a : Analysis D) (law : IsMerge D a) where
  -- what holds after a turn: data goes down, what does not wait absorbs what it makes, and the size has fallen, or it is the same and one row less waits
  pub record HasFollowed (g : State) (s : DataPart D) (h : State) (t : DataPart D) : Type 0 where
    pub has : HasData a h t
    pub classes : DataGoesDown a g s h t
    pub down : GoesDown a s t
    pub falls : (size_with_data a h t < size_with_data a g s) ⊎ ((size_with_data a h t ≡ size_with_data a g s) × (suc (length t.pending) ≡ length s.pending))

  taken-once : (g : State) (s : DataPart D) → HasData a g s → (o : ℕ) → Contains s.pending o → suc (length (without o s.pending)) ≡ length s.pending
  taken-once g s has o c = without-length o s.pending has.waits_once c

  -- what is merged at a row that waits no more: its class absorbs what its node makes
  module _ (g : State) (sane : Sane g) (s : DataPart D) (has : HasData a g s) (o : ℕ) (waits : Contains s.pending o) (h : o < length g.nodes) where
    abbrev m : DataPart D
    m = taken s o

    abbrev c : ℕ
    c = find_class g.found o

    class-below : c < length g.nodes
    class-below = found-in_range g.nodes g.found (leads g.nodes g.found sane.sound.linked) o h

    -- over the rows of a graph of the same finds, of which all but that of o are rows of g
    taken-followed : (rows : List Row) (waiting : List ℕ) → sources rows ≡ sources g.rows → ((x : ℕ) → Contains waiting x → Contains m.pending x) → (v : D) (t : DataPart D) → Merges a (record g { rows = rows; waiting = waiting }) m c v t →
        ((r : Row) → Contains rows r → (Contains g.rows r × (r.source ≢ o)) ⊎ ((r.source ≡ o) × (made a s r.shape ≡ v))) → HasFollowed g s (record g { rows = rows; waiting = waiting }) t
    taken-followed rows waiting same whole v t merges each =
        let f : State = record g { rows = rows; waiting = waiting } in
        let k : HasMerged a law f m c v t = merged a law merges in
        let down : GoesDown a s t = down-then a law s m t (down-same a law s m.pending) k.down in
        record {
          has = record {
            waits_once = k.once (different-filter (λ x. not (nat_eq x o)) s.pending has.waits_once);
            waits_whole = λ x j. k.kept x (whole x j);
            waits_for_row = λ x j. elim (k.from x j) [
              | inl i ↦ subst (λ xs. Contains xs x) (sym same) (has.waits_for_row x (without-from o x s.pending i).0)
              | inr i ↦ i
            ];
            absorbs_made = λ r j n. elim (each r j) [
              | inl i ↦
                  let free : ¬ Contains s.pending r.source = λ w. n (k.kept r.source (without-keeps o r.source s.pending w i.1)) in
                  absorbs-then a law (t.data_of (row_class g r)) (s.data_of (row_class g r)) (made a t r.shape) (k.down.lower (row_class g r))
                  (subst (Absorbs a (s.data_of (row_class g r))) (sym (k.same_made r j n)) (has.absorbs_made r i.0 free))
              | inr i ↦
                  subst (λ x. Absorbs a (t.data_of (find_class g.found x)) (made a t r.shape)) (sym i.0)
                  (subst (Absorbs a (t.data_of c)) (sym (k.same_made r j n ∙ i.1)) k.takes)
            ];
            changed_once = down.once has.changed_once;
            changed_in_range = λ i j. elim (k.noted_from i j) [
              | inl y ↦ has.changed_in_range i y
              | inr e ↦ subst (λ x. x < length g.nodes) (sym e) class-below
            ];
          };
          classes = λ i j. k.down.lower (find_class g.found i);
          down = down;
          falls =
              let y : length g.found ≡ length g.nodes = sane.sound.linked.entries in
              let z : c < length g.nodes = class-below in
              elim (k.falls g.found (omega arith) (found-live g.nodes g.found (leads g.nodes g.found sane.sound.linked) o h)) [
                | inl l ↦ inl (omega arith)
                | inr e ↦ inr ((λ i. size g + heights_from a (e i).data_of 0 g.found), ap (λ (p : DataPart D). suc (length p.pending)) e ∙ taken-once g s has o waits)
              ];
        }

  -- a turn for data alone
  pub data-followed : (g : State) → Sane g → (s t : DataPart D) → HasData a g s → TakesData a g s t → HasFollowed g s g t
  data-followed g sane s t has (takes r there waits alone merges) =
      let o : ℕ = r.source in
      let x : HasFollowed g s (record g { rows = g.rows; waiting = g.waiting }) t =
      taken-followed g sane s has o waits (sane.filed.each r there).in_range g.rows g.waiting refl
      (λ y c. without-keeps o y s.pending (has.waits_whole y c) (λ e. alone (subst (Contains g.waiting) e c)))
      (made a s r.shape) t merges
      (λ q c. elim (cases_eq q.source o) [
        | inl e ↦ inr (e, ap (λ (y : Row). made a s y.shape) (one_row g.rows sane.filed.once q r c there e))
        | inr n ↦ inl (c, n)
      ]) in
      record { has = has-proofs a law g t x.has g refl refl refl refl; classes = x.classes; down = x.down; falls = x.falls }

  -- a node that is filed anew
  refiled-followed : (g : State) → Sane g → (s t : DataPart D) → HasData a g s → (o : ℕ) → Contains g.waiting o → Merges a (refiled_state g o) (taken s o) (find_class g.found o) (made a s (row_for g o).shape) t → HasFollowed g s (refiled_state g o) t
  refiled-followed g sane s t has o waits merges =
      let r = of_source g.rows o (sane.filed.waits_for_row o waits) in
      let h : o < length g.nodes = subst (λ i. i < length g.nodes) r.2 (sane.filed.each r.0 r.1).in_range in
      let x : HasFollowed g s (record g { rows = (refiled_state g o).rows; waiting = without o g.waiting }) t =
      taken-followed g sane s has o (has.waits_whole o waits) h (refiled_state g o).rows (without o g.waiting) (sources-with_row (row_for g o) g.rows)
      (λ y c. let k = without-from o y g.waiting c in without-keeps o y s.pending (has.waits_whole y k.0) k.1)
      (made a s (row_for g o).shape) t merges
      (λ q c. elim (with_row-from (row_for g o) g.rows q c) [
        | inl e ↦ inr (ap (λ (y : Row). y.source) e, ap (λ (y : Row). made a s y.shape) e)
        | inr k ↦ inl k
      ]) in
      record { has = has-proofs a law _ t x.has (refiled_state g o) refl refl refl refl; classes = x.classes; down = x.down; falls = x.falls }

  -- the row of o goes, after a union
  removed-followed : (g h : State) (s m : DataPart D) → HasData a g s → HasCarried a law g s h m → (o : ℕ) → Contains g.waiting o → HasFollowed g s (removed_state h o) (taken m o)
  removed-followed g h s m has k o waits = record {
    has = record {
      waits_once = different-filter (λ x. not (nat_eq x o)) m.pending k.has.waits_once;
      waits_whole = λ x c. let j = without-from o x h.waiting c in without-keeps o x m.pending (k.has.waits_whole x j.0) j.1;
      waits_for_row = λ x c. let j = without-from o x m.pending c in source-stays o x h.rows (k.has.waits_for_row x j.0) j.1;
      absorbs_made = λ r c n.
          let j = filter-from (λ (q : Row). not (nat_eq q.source o)) h.rows r c in
          k.has.absorbs_made r j.0 (λ w. n (without-keeps o r.source m.pending w (λ e. false≢true (sym (ap not (eq-eqb r.source o e)) ∙ j.1))));
      changed_once = k.has.changed_once;
      changed_in_range = k.has.changed_in_range;
    };
    classes = k.classes;
    down = down-then a law s m (taken m o) k.down (down-same a law m (without o m.pending));
    falls = elim k.falls [
      | inl l ↦ inl l
      | inr e ↦ inr (
        (λ i. size_from 0 (e.0 i) + heights_from a (e.2 i).data_of 0 (e.0 i)),
        ap (λ (p : DataPart D). suc (length (without o p.pending))) e.2 ∙ taken-once g s has o (has.waits_whole o waits),
      )
    ];
  }

  -- a union by which the size of the graph falls
  falling-followed : (g h : State) (s t : DataPart D) → HasCarried a law g s h t → size h < size g → HasFollowed g s h t × (size_with_data a h t < size_with_data a g s)
  falling-followed g h s t k l =
      let falls : size_with_data a h t < size_with_data a g s =
      elim k.falls [
        | inl f ↦ f
        | inr e ↦ let q : size h ≡ size g = ap (size_from 0) e.0 in absurd (omega arith)
      ] in
      (record { has = k.has; classes = k.classes; down = k.down; falls = inl falls }, falls)

  -- a turn
  pub followed : {g h : State} (k : Turn g h) → Sane g → (s t : DataPart D) → HasData a g s → Follows a k s t → HasFollowed g s h t
  followed (enters {g = g} {h = h} proofs grow k) sane s t has f =
      let r : HasFollowed (with_proofs g proofs) s h t = followed k (proofs-sane g sane proofs grow) s t (has-proofs a law g s has (with_proofs g proofs) refl refl refl refl) f in
      record { has = r.has; classes = r.classes; down = r.down; falls = r.falls }
  followed (narrows {g = g} {h = h} o p x waits used lacks c u) sane s t has f =
      (falling-followed g h s t (carried a law p u sane c.stands.0 s t has f) (lacking-falls p u sane c.stands.0 (narrow-lacks g sane o p x used lacks c))).0
  followed (unites_parents {g = g} {h = h} o p r waits there differ same c u) sane s t has (m, f, e) =
      subst (HasFollowed g s (removed_state h o)) (sym e) (removed-followed g h s m has (carried a law p u sane c.stands.0 s m has f) o waits)
  followed (refiles {g = g} o waits covered alone) sane s t has f = refiled-followed g sane s t has o waits f

  -- an act
  pub acted-followed : {g h : State} (k : Acts g h) → Sane g → (s t : DataPart D) → HasData a g s → FollowsAct a k s t → HasFollowed g s h t × (size_with_data a h t < size_with_data a g s)
  acted-followed (acts {g = g} {h = h} y c n u) sane s t has f =
      let l = sane.each_listed y c in
      falling-followed g h s t (carried a law y.proof u sane l.proof s t has f) (lacking-falls y.proof u sane l.proof (unaligned-lacks g sane y l n))
