-- One class after another.
use Rattle.std.proofs.Common.{◌∙◌, ap, sym}
use Rattle.std.proofs.lemmas.Bool.{eq-eqb, ne_eqb, false≢true}
use Rattle.std.specs.Prelude.{length}
use Rattle.std.specs.List.{filter, range_with_len, sum_by}
use Rattle.slotted_nodes.specs.Form.{counted}
use Rattle.slotted_model.specs.Applied.{Applied}
use Rattle.slotted_model.specs.Find.{Entry, entry_at}
use Rattle.slotted_classes.specs.Kept.{entries_of}
use Rattle.slotted_classes.proofs.KeptLists.{entry_at-of}
use Rattle.slotted_lookup.specs.Reports.{lives}
use Rattle.slotted_lookup.proofs.ReportLists.{next-fails}
use Rattle.slotted_reports.specs.Measure.{entry_slots}
use Rattle.slotted_reports.proofs.Counts.{counts-more, sums-one}
use Rattle.slotted_reports.proofs.measure.slot_count.Goals.{then-is_alive, else-is_alive}
use Rattle.slotted_reports.proofs.measure.slot_count.Goals as goal

pub loop-class-preserved : goal.loop-class-preserved
loop-class-preserved g c =
    let k = c.args.store.now in
    let found = entries_of k in
    let i = c.loop-class.class in
    let test = lives found in
    let so_far = sum_by (entry_slots k) (filter test (range_with_len 0 i)) in
    elim c.if-is_alive.branch [
      | then-is_alive w ↦
          let live = eq-eqb (entry_at found i).class i (c.is_alive.ensures.0 w.if-is_alive.true) in
          let more = w.len.ensures.len ∙ (ap (λ (a : Applied). length a.1) w.entry.ensures ∙ sym (ap (λ (e : Entry). length e.pairs) (entry_at-of k i))) in
          w.count-is ∙ (w.saturating_add-count.ensures ∙ (counts-more c.loop-class.count w.len.result so_far (entry_slots k i) c.loop-class.invariant more ∙ ap counted (sums-one test (entry_slots k) i live)))
      | else-is_alive w ↦
          let dead = ne_eqb (entry_at found i).class i (λ e. false≢true (sym w.if-is_alive.false ∙ c.is_alive.ensures.1 e)) in
          w.count-is ∙ (c.loop-class.invariant ∙ ap (λ xs. counted (sum_by (entry_slots k) xs)) (next-fails test i dead))
    ]
