use Rattle.std.proofs.Common.{◌∙◌, ◌++◌, ◌∷◌, [], ap, sym}
use Rattle.std.proofs.lemmas.Bool.{eq-eqb, ne_eqb, false≢true}
use Rattle.slotted_model.specs.Find.{entry_at}
use Rattle.slotted_classes.specs.Kept.{entries_of}
use Rattle.slotted_lookup.specs.Reports.{lives}
use Rattle.slotted_lookup.proofs.ReportLists.{next-fails, next-passes}
use Rattle.slotted_matching.proofs.index.live_classes.Goals.{then-is_alive+in_ok-push, else-is_alive}
use Rattle.slotted_matching.proofs.index.live_classes.Goals as goal

pub loop-class-preserved : goal.loop-class-preserved
loop-class-preserved g c =
    let found = entries_of c.args.store.now in
    let i = c.loop-class.class in
    elim c.if-is_alive.branch [
      | then-is_alive+in_ok-push w ↦
          let live = eq-eqb (entry_at found i).class i (c.is_alive.ensures.0 w.if-is_alive.true) in
          (λ j. (w.live-is j).items) ∙ (w.in_ok-push.ensures.items ∙ (ap (λ xs. xs ++ i ∷ []) c.loop-class.invariant ∙ next-passes (lives found) i live))
      | else-is_alive w ↦
          let dead = ne_eqb (entry_at found i).class i (λ e. false≢true (sym w.if-is_alive.false ∙ c.is_alive.ensures.1 e)) in
          (λ j. (w.live-is j).items) ∙ (c.loop-class.invariant ∙ next-fails (lives found) i dead)
    ]
