-- One class after another.
use Rattle.std.proofs.Common.{◌+◌, ◌∙◌, ap, sym, arith}
use Rattle.std.proofs.lemmas.Bool.{eq-eqb, ne_eqb, false≢true}
use Rattle.std.specs.Prelude.{length}
use Rattle.slotted_model.specs.Find.{entry_at}
use Rattle.slotted_classes.specs.Kept.{entries_of}
use Rattle.slotted_lookup.specs.Reports.{lives}
use Rattle.slotted_lookup.proofs.ReportLists.{next-fails}
use Rattle.slotted_reports.proofs.Counts.{counts-one}
use Rattle.slotted_reports.proofs.measure.live_count.Goals.{then-is_alive, else-is_alive}
use Rattle.slotted_reports.proofs.measure.live_count.Goals as goal

pub loop-class-preserved : goal.loop-class-preserved
loop-class-preserved g c =
    let found = entries_of c.args.store.now in
    let i = c.loop-class.class in
    let test = lives found in
    let before = c.loop-class.invariant in
    elim c.if-is_alive.branch [
      | then-is_alive w ↦
          let live = eq-eqb (entry_at found i).class i (c.is_alive.ensures.0 w.if-is_alive.true) in
          (w.count-is ∙ (ap (λ n. n + 1) before.0 ∙ counts-one test i live), omega (arith, before.1, w.count-is))
      | else-is_alive w ↦
          let dead = ne_eqb (entry_at found i).class i (λ e. false≢true (sym w.if-is_alive.false ∙ c.is_alive.ensures.1 e)) in
          (w.count-is ∙ (before.0 ∙ ap length (next-fails test i dead)), omega (arith, before.1, w.count-is))
    ]
