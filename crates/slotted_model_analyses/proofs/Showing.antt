-- New proofs and shortcuts keep data.
use Rattle.std.proofs.Common.{◌≡◌, ℕ, ◌<◌, List, length, sym, ap, refl, subst}
use Rattle.std.specs.Prelude.{Contains}
use Rattle.slotted_model.specs.Applied.{Applied}
use Rattle.slotted_model.specs.Correspondence.{identity}
use Rattle.slotted_model.specs.Find.{IsLive, find_class, used_slots}
use Rattle.slotted_model.specs.Link.{with_shortcut}
use Rattle.slotted_model.specs.ProofList.{ProofEntry, equation_at, find_equation}
use Rattle.slotted_model.specs.State.{State, sources}
use Rattle.slotted_model.specs.Changes.{ProofsGrow, with_proofs}
use Rattle.slotted_model.specs.Adding.{SameAnswers}
use Rattle.slotted_model.proofs.Rebuilding.GoingOn.{used-valid}
use Rattle.slotted_model.proofs.Rebuilding.Quiet.{proofs-quiet, shortcut-quiet}
use Rattle.slotted_model_analyses.specs.Analysis.{Analysis, Absorbs}
use Rattle.slotted_model_analyses.specs.DataPart.{DataPart, made, RestsWithData}

module _ {D : Type 0} (a : Analysis D) (g : State) (s : DataPart D) (x : RestsWithData a g s) where
  -- a graph of the same rows, nodes and answers
  answers-keep : (h : State) → SameAnswers g h → h.nodes ≡ g.nodes → h.rows ≡ g.rows → h.waiting ≡ g.waiting → RestsWithData a h s
  answers-keep h same nodes rows waiting = record {
    rest = same.rest;
    has = record {
      waits_once = x.has.waits_once;
      waits_whole = λ o c. x.has.waits_whole o (subst (λ w. Contains w o) waiting c);
      waits_for_row = λ o c. subst (λ rs. Contains (sources rs) o) (sym rows) (x.has.waits_for_row o c);
      absorbs_made = λ r c n.
          let k : Contains g.rows r = subst (λ rs. Contains rs r) rows c in
          let b : Applied = (r.source, identity (used_slots g.found r.source)) in
          let e : find_class h.found r.source ≡ find_class g.found r.source =
          ap (λ (y : Applied). y.0) (same.finds b (used-valid g x.rest.sane.sound.linked r.source (x.rest.sane.filed.each r k).in_range)) in
          subst (λ i. Absorbs a (s.data_of i) (made a s r.shape)) (sym e) (x.has.absorbs_made r k n);
      changed_once = x.has.changed_once;
      changed_in_range = λ i c. subst (λ ns. i < length ns) (sym nodes) (x.has.changed_in_range i c);
    };
    nothing_waits = x.nothing_waits;
  }

  pub proofs-keep : (proofs : List ProofEntry) → ProofsGrow g.nodes g.proofs proofs → RestsWithData a (with_proofs g proofs) s
  proofs-keep proofs grow = answers-keep (with_proofs g proofs) (proofs-quiet g x.rest proofs grow) refl refl refl

  pub shortcut-keeps : (i proof : ℕ) → i < length g.nodes → ¬ IsLive g.found i → proof < length g.proofs → equation_at g.proofs proof ≡ find_equation g.nodes g.found i →
      RestsWithData a (record g { found = with_shortcut g.found i proof }) s
  shortcut-keeps i proof h dead l e = answers-keep (record g { found = with_shortcut g.found i proof }) (shortcut-quiet g x.rest i proof h dead l e) refl refl refl
