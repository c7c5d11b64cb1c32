-- Data that is carried along after a graph has come to rest.
use Rattle.std.proofs.Common.{◌≡◌, ℕ, ◌<◌, List, [], length, sym, ◌∙◌, ap, subst, inl, inr, arith}
use Rattle.std.specs.Prelude.{Contains, map}
use Rattle.std.proofs.lemmas.List.{length-map}
use Rattle.slotted_lists.proofs.Contained.{Contains-nil, map-agree}
use Rattle.slotted_theory.specs.Nameless.{DTerm}
use Rattle.slotted_theory.specs.Shape.{shape}
use Rattle.slotted_model.specs.Classes.{canonical_node}
use Rattle.slotted_model.specs.Cost.{child_count, AreAlike}
use Rattle.slotted_model.specs.Find.{find_class}
use Rattle.slotted_model.specs.State.{Row, State, normal_node, child_classes}
use Rattle.slotted_model.specs.Rest.{IsCurrent, AtRest}
use Rattle.slotted_model.specs.Changes.{GoesOn}
use Rattle.slotted_model.specs.Extraction.{row_class}
use Rattle.slotted_model.proofs.LeastTerms.Costs.{child_classes-count}
use Rattle.slotted_model.proofs.LeastTerms.Optimal.{row-classes, row-alike}
use Rattle.slotted_model.proofs.Rebuilding.Rows.{current-shape}
use Rattle.slotted_model_analyses.specs.Analysis.{Analysis, IsMerge, MakesAlike, Absorbs}
use Rattle.slotted_model_analyses.specs.DataPart.{DataPart, made, RunsWithData, HasData, RestsWithData}
use Rattle.slotted_model_analyses.specs.DataWrites.{HasNotedAll}
use Rattle.slotted_model_analyses.specs.Carried.{GoesAlong, CarriesTo}
use Rattle.slotted_model_analyses.proofs.Absorbing.{absorbs-then}
use Rattle.slotted_model_analyses.proofs.CarriedSteps.{noted-down}
use Rattle.slotted_model_analyses.proofs.Counts.{HasRunWithData, run-with}
use Rattle.slotted_model_analyses.proofs.FiledAgain.{canonical-absorbed, normal-classes, normal-alike, map-map}
use Rattle.slotted_model_analyses.proofs.Reaching.{DoneWithData, reaching}
use Rattle.slotted_model_analyses.proofs.Writing.{graph-stays}

module _ {D : Type 0} (P : DTerm → Type 0) (a : Analysis D) (law : IsMerge D a) (alike : MakesAlike P D a) (closed : (d e : DTerm) → AreAlike d e → P e → P d) where
  -- what a row makes is what the canonical node of its source makes
  pub row-made : (h : State) → AtRest h → ((r : Row) → Contains h.rows r → P r.shape) → (t : DataPart D) → (r : Row) → Contains h.rows r →
      made a t r.shape ≡ a.make (canonical_node h.nodes r.source) (map (λ k. t.data_of (find_class h.found k)) (child_classes (canonical_node h.nodes r.source).args))
  row-made h rest known t r there =
      let c : DTerm = canonical_node h.nodes r.source in
      let N : DTerm = normal_node h r.source in
      let waits : ¬ Contains h.waiting r.source = λ k. Contains-nil r.source (subst (λ w. Contains w r.source) rest.nothing_waits k) in
      let cur : IsCurrent h r = rest.sane.filed.current r there waits in
      let s : shape N ≡ r.shape = current-shape h rest.sane.sound.linked rest.sane.filed r there cur in
      let cs : List ℕ = child_classes r.shape.args in
      let row : cs ≡ map (find_class h.found) (child_classes c.args) = row-classes r N (sym s) ∙ normal-classes h.found c.args in
      let similar : AreAlike c r.shape = sym (normal-alike h.found c) ∙ sym (row-alike r N (sym s)) in
      let count : length (map t.data_of cs) ≡ child_count c.args =
      (let l : length (map t.data_of cs) ≡ length cs = length-map cs t.data_of in
      let m : length cs ≡ length (map (find_class h.found) (child_classes c.args)) = ap length row in
      let j : length (map (find_class h.found) (child_classes c.args)) ≡ length (child_classes c.args) = length-map (child_classes c.args) (find_class h.found) in
      let n : length (child_classes c.args) ≡ child_count c.args = child_classes-count c.args in
      omega arith) in
      sym (alike c r.shape (map t.data_of cs) (closed c r.shape similar (known r there)) (known r there) similar count)
      ∙ ap (a.make c) (ap (map t.data_of) row ∙ map-map (find_class h.found) t.data_of (child_classes c.args))

  pub carried-kept : (g : State) (s : DataPart D) → RestsWithData a g s → ((r : Row) → Contains g.rows r → P r.shape) →
      (h : State) (t : DataPart D) → AtRest h → GoesOn g h → ((r : Row) → Contains h.rows r → P r.shape) → GoesAlong a g s h t → HasData a h t
  carried-kept g s x known h t rest goes known_h along = record {
    waits_once = along.waits_once;
    waits_whole = λ o k. absurd (Contains-nil o (subst (λ w. Contains w o) rest.nothing_waits k));
    waits_for_row = along.waits_for_row;
    absorbs_made = λ r there n. elim (along.sees r there n) [
      | inl e ↦ e
      | inr y ↦ seen r there y.0 y.1
    ];
    changed_once = along.changed_once;
    changed_in_range = along.changed_in_range;
  }
    where
      seen : (r : Row) → Contains h.rows r → r.source < length g.nodes → ((k : ℕ) → Contains (child_classes (canonical_node g.nodes r.source).args) k → t.data_of (find_class h.found k) ≡ s.data_of (find_class g.found k)) →
          Absorbs a (t.data_of (row_class h r)) (made a t r.shape)
      seen r there l same =
          let c : DTerm = canonical_node g.nodes r.source in
          let e : canonical_node h.nodes r.source ≡ c = (goes.classes r.source l).1 in
          let old : Absorbs a (s.data_of (find_class g.found r.source)) (a.make c (map (λ k. s.data_of (find_class g.found k)) (child_classes c.args))) =
          canonical-absorbed P a alike closed g s x known r.source l in
          let is : made a t r.shape ≡ a.make c (map (λ k. s.data_of (find_class g.found k)) (child_classes c.args)) =
          row-made h rest known_h t r there
          ∙ ((λ i. a.make (e i) (map (λ k. t.data_of (find_class h.found k)) (child_classes (e i).args)))
          ∙ ap (a.make c) (map-agree (λ k. t.data_of (find_class h.found k)) (λ k. s.data_of (find_class g.found k)) (child_classes c.args) same)) in
          absorbs-then a law (t.data_of (find_class h.found r.source)) (s.data_of (find_class g.found r.source)) (made a t r.shape) (along.down r.source l)
          (subst (Absorbs a (s.data_of (find_class g.found r.source))) (sym is) old)

  -- a run leads to where no row waits, and the data is carried to what it leads to
  pub carried-rests : (g : State) (s : DataPart D) → RestsWithData a g s → ((r : Row) → Contains g.rows r → P r.shape) →
      (h : State) (t : DataPart D) → AtRest h → GoesOn g h → ((r : Row) → Contains h.rows r → P r.shape) → GoesAlong a g s h t → HasNotedAll g s h t →
      ((n : ℕ) × (u : DataPart D) × RunsWithData a h t n h u × (u.pending ≡ []))
      × ((n : ℕ) (k : State) (u : DataPart D) → RunsWithData a h t n k u → u.pending ≡ [] → (k ≡ h) × CarriesTo a g s h u)
  carried-rests g s x known h t rest goes known_h along noted =
      let has : HasData a h t = carried-kept g s x known h t rest goes known_h along in
      let d : DoneWithData a law h rest.sane t has = reaching a law h rest.sane t has in (
        subst (λ k. (n : ℕ) × (u : DataPart D) × RunsWithData a h t n k u × (u.pending ≡ [])) (graph-stays a rest d.3) (d.0, d.2, d.3, d.4.1),
        λ n k u r left.
            let e : k ≡ h = graph-stays a rest r in
            let w : HasRunWithData a law h rest.sane t n k u = run-with a law h rest.sane has r in
            let after : HasNotedAll h t k u = noted-down a law h t k u (ap (λ (f : State). length f.nodes) e) w.down in (
              e,
              subst (λ f. CarriesTo a g s f u) e (record {
                rests = record { rest = subst AtRest (sym e) rest; has = w.has; nothing_waits = left };
                down = λ i l. absorbs-then a law (u.data_of (find_class k.found i)) (t.data_of (find_class h.found i)) (s.data_of (find_class g.found i)) (w.classes i (goes.classes i l).0) (along.down i l);
                noted = record {
                  kept = λ i c. after.kept i (noted.kept i c);
                  noted = λ i l m.
                      let y = after.noted i l m in
                      let z = noted.noted i y.0 (λ c. m (after.kept i c)) in
                      (z.0, y.1 ∙ z.1);
                };
              }),
            ),
      )
