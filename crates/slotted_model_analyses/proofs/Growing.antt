-- A new class with the data that its node makes.
use Rattle.std.proofs.Common.{◌≡◌, ℕ, suc, ◌<◌, List, [], ◌∷◌, length, sym, ◌∙◌, ap, subst, inl, inr, arith, length-append, ◌+◌}
use Rattle.std.specs.Prelude.{Contains}
use Rattle.std.proofs.Math.Seq.{get_or-append_seam}
use Rattle.slotted_lists.proofs.Contained.{contains_head, contains_tail, contains_cases}
use Rattle.slotted_theory.specs.Nameless.{DTerm}
use Rattle.slotted_model.specs.Classes.{canonical_slots}
use Rattle.slotted_model.specs.Correspondence.{identity}
use Rattle.slotted_model.specs.Find.{Entry, IsLive, find_class}
use Rattle.slotted_model.specs.Growth.{IsNew, Added}
use Rattle.slotted_model.specs.State.{Row, State, sources, child_classes}
use Rattle.slotted_model.specs.Rest.{IsValidIn, Sane}
use Rattle.slotted_model.specs.Rebuild.{row_for}
use Rattle.slotted_model.specs.Adding.{with_new_class, with_new_row}
use Rattle.slotted_model.specs.Extraction.{row_class}
use Rattle.slotted_model.proofs.Rebuilding.Adding.{class-sane, last-in_range}
use Rattle.slotted_model.proofs.Finds.Finding.{leads, find_class-live, found-in_range}
use Rattle.slotted_model.proofs.Represented.Growing.{added}
use Rattle.slotted_model.proofs.Rebuilding.KeepingLookUps.{children-below}
use Rattle.slotted_model.proofs.Finds.NewClasses.{find_class-same}
use Rattle.slotted_model.proofs.Rebuilding.Rows.{of_source}
use Rattle.slotted_model_analyses.specs.Analysis.{Analysis, IsMerge, Absorbs}
use Rattle.slotted_model_analyses.specs.DataPart.{DataPart, made, HasNoted, HasData}
use Rattle.slotted_model_analyses.specs.DataWrites.{made_of_found, with_new_data, with_new_pending}
use Rattle.slotted_model_analyses.proofs.Absorbing.{absorbs-same}
use Rattle.slotted_model_analyses.proofs.Heights.{with_data-here, with_data-other}
use Rattle.slotted_model_analyses.proofs.Merging.{others-same}

module _ {D : Type 0} (a : Analysis D) (g : State) (sane : Sane g) (s : DataPart D) (c : DTerm) (new : IsNew g.nodes c) (changed : List ℕ) (noted : HasNoted (length g.nodes) s.changed changed) where
  abbrev newer : State
  newer = with_new_class g c

  abbrev i : ℕ
  i = length g.nodes

  abbrev t : DataPart D
  t = with_new_data a g s c changed

  pub class-same : (k : ℕ) → k < i → find_class newer.found k ≡ find_class g.found k
  class-same k h =
      let grown : Added g.nodes newer.nodes c = added g.nodes c sane.sound.canonical new in
      let e : length newer.nodes ≡ suc i = let l : length newer.nodes ≡ i + 1 = length-append g.nodes (c ∷ []) in omega arith in
      find_class-same g.nodes newer.nodes grown.extends e g.found sane.sound.linked (length g.proofs) k h

  pub class-below : (k : ℕ) → k < i → find_class g.found k < i
  class-below k h = found-in_range g.nodes g.found (leads g.nodes g.found sane.sound.linked) k h

  pub old-data : (k : ℕ) → k < i → t.data_of k ≡ s.data_of k
  old-data k h = with_data-other s.data_of i (made_of_found a g s c) k (λ e. omega arith)

  made-same : (r : Row) → Contains g.rows r → made a t r.shape ≡ made a s r.shape
  made-same r k = ap (a.make r.shape) (others-same s.data_of i (made_of_found a g s c) (child_classes r.shape.args) (λ d. let l : i < i = children-below (IsValidIn g) i (λ b v. v.in_range) r.shape.args (sane.filed.each r k).children i d in omega arith))

  absorbs-still : HasData a g s → (r : Row) → Contains g.rows r → ¬ Contains s.pending r.source → Absorbs a (t.data_of (row_class newer r)) (made a t r.shape)
  absorbs-still has r k n =
      let h : r.source < i = (sane.filed.each r k).in_range in
      let x : t.data_of (row_class newer r) ≡ s.data_of (row_class g r) = ap t.data_of (class-same r.source h) ∙ old-data (find_class g.found r.source) (class-below r.source h) in
      subst (λ y. Absorbs a y (made a t r.shape)) (sym x) (subst (Absorbs a (s.data_of (row_class g r))) (sym (made-same r k)) (has.absorbs_made r k n))

  changed-below : HasData a g s → (k : ℕ) → Contains changed k → k < length newer.nodes
  changed-below has k d =
      let l : i < length newer.nodes = last-in_range g sane c new in
      elim (noted.from k d) [
        | inl j ↦ let m : k < i = has.changed_in_range k j in omega arith
        | inr e ↦ omega arith
      ]

  pub class-has : HasData a g s → HasData a newer t
  class-has has = record {
    waits_once = has.waits_once;
    waits_whole = has.waits_whole;
    waits_for_row = has.waits_for_row;
    absorbs_made = absorbs-still has;
    changed_once = noted.once;
    changed_in_range = changed-below has;
  }

  pub row-has : HasData a g s → HasData a (with_new_row newer i) (with_new_pending a g s c changed)
  row-has has = record {
    waits_once = (fresh, has.waits_once);
    waits_whole = λ o k. elim (contains_cases i g.waiting o k) [
      | inl e ↦ subst (Contains (i ∷ s.pending)) (sym e) (contains_head i s.pending)
      | inr j ↦ contains_tail i s.pending o (has.waits_whole o j)
    ];
    waits_for_row = λ o k. elim (contains_cases i s.pending o k) [
      | inl e ↦ subst (Contains (i ∷ sources g.rows)) (sym e) (contains_head i (sources g.rows))
      | inr j ↦ contains_tail i (sources g.rows) o (has.waits_for_row o j)
    ];
    absorbs_made = λ r k n. elim (contains_cases (row_for newer i) g.rows r k) [
      | inl e ↦ absurd (n (subst (Contains (i ∷ s.pending)) (ap (λ (x : Row). x.source) (sym e)) (contains_head i s.pending)))
      | inr j ↦ absorbs-still has r j (λ w. n (contains_tail i s.pending r.source w))
    ];
    changed_once = noted.once;
    changed_in_range = changed-below has;
  }
    where
      fresh : ¬ Contains s.pending i
      fresh k =
          let r = of_source g.rows i (has.waits_for_row i k) in
          let h : r.0.source < i = (sane.filed.each r.0 r.1).in_range in
          let e : r.0.source ≡ i = r.2 in
          omega arith

  -- the data of the older classes is the same
  pub old-classes : IsMerge D a → (k : ℕ) → k < i → Absorbs a (t.data_of (find_class newer.found k)) (s.data_of (find_class g.found k))
  old-classes law k h =
      let x : t.data_of (find_class newer.found k) ≡ s.data_of (find_class g.found k) = ap t.data_of (class-same k h) ∙ old-data (find_class g.found k) (class-below k h) in
      subst (λ y. Absorbs a y (s.data_of (find_class g.found k))) (sym x) (absorbs-same a law (s.data_of (find_class g.found k)))

  -- and the new class lives, with what its node makes
  pub new-class : find_class newer.found i ≡ i
  new-class =
      let e : length g.found ≡ i = sane.sound.linked.entries in
      let x : Entry = record { class = length g.found; pairs = identity (canonical_slots newer.nodes (length g.found)); proof = length g.proofs; died = 0 } in
      let live : IsLive newer.found (length g.found) = ap (λ (y : Entry). y.class) (get_or-append_seam g.found x [] (record { class = 0; pairs = []; proof = 0; died = 0 })) in
      find_class-live newer.nodes newer.found (leads newer.nodes newer.found (class-sane g sane c new).sound.linked) i (last-in_range g sane c new) (subst (IsLive newer.found) e live)

  pub new-data : t.data_of i ≡ made_of_found a g s c
  new-data = with_data-here s.data_of i (made_of_found a g s c)
