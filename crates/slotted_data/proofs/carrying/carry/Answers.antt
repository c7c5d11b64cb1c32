use Rattle.std.proofs.Common.{◌≡◌, true, false, length, sym, ◌∙◌, ap, subst}
use Rattle.slotted_model_analyses.specs.Analysis.{IsMerge}
use Rattle.slotted_data.specs.Meaning.{by_bare_nodes}
use Rattle.slotted_data.proofs.Merging.{merge-decided}
use Rattle.slotted_data.specs.Held.{Held, with_carried}
use Rattle.slotted_data.specs.Carrying.{Carried}
use Rattle.slotted_data.proofs.GoingAlong.{since-low, since-tall}
use Rattle.slotted_data.proofs.Settled.{still-carried}
use Rattle.slotted_data.proofs.carrying.carry.Goals as goal
use Rattle.slotted_data.proofs.carrying.carry.Goals.{then-is_tall+in_ok-carry_up, else-is_tall}

pub returns-clause-carried : goal.returns-clause-carried
returns-clause-carried g c k r before =
    let meaning = g.N.Analysis.meaning c.args.analysis.now in
    let a = by_bare_nodes meaning in
    let D = g.row.N-Data.Denot in
    let law : IsMerge D a = merge-decided meaning g.N.Data.PartialEq.eq g.met.N.Data.Eq.laws g.met.N.Analysis.equal_is_same (g.met.N.Analysis.is_merge c.args.analysis.now) in
    let l = c.args.store.now in
    let q = c.args.nodes.now in
    let d = c.args.data.now in
    let e = c.add_new.new.data in
    let new = c.in_ok-add_new.ensures.ok in
    let count = c.in_ok-add_new.ensures.count in
    let counted : c.set_carried.new.self ≡ with_carried c.if-is_tall.data (length l.deaths) =
    c.set_carried.ensures ∙ ap (λ xs. with_carried c.if-is_tall.data (length xs)) c.deaths.ensures.list in
    subst (Carried a k r l q d) (sym counted) (elim c.if-is_tall.branch [
      | then-is_tall+in_ok-carry_up w ↦
          let is_tall : e.tall ≡ true = sym c.is_tall.ensures ∙ w.if-is_tall.true in
          subst (λ (f : Held D). Carried a k r l q d (with_carried f (length l.deaths))) (sym w.data-is)
          (since-tall meaning law l c.deaths.ensures.just q c.requires.rests.nothing_waits c.requires.rests k r d before e new count is_tall w.carry_up.new.nodes w.carry_up.new.data w.in_ok-carry_up.ensures.ok)
      | else-is_tall w ↦
          let short : e.tall ≡ false = sym c.is_tall.ensures ∙ w.if-is_tall.false in
          subst (λ (f : Held D). Carried a k r l q d (with_carried f (length l.deaths))) (sym w.data-is)
          (since-low meaning law l c.deaths.ensures.just q c.requires.rests.nothing_waits c.requires.rests k r d before e new count short)
    ])

pub returns-then-has_carried_all-clause-carried : goal.returns-then-has_carried_all-clause-carried
returns-then-has_carried_all-clause-carried g c k r before =
    let meaning = g.N.Analysis.meaning c.args.analysis.now in
    let law : IsMerge g.row.N-Data.Denot (by_bare_nodes meaning) = merge-decided meaning g.N.Data.PartialEq.eq g.met.N.Data.Eq.laws g.met.N.Analysis.equal_is_same (g.met.N.Analysis.is_merge c.args.analysis.now) in
    still-carried meaning law c.args.store.now c.has_carried_all.ensures.just c.args.nodes.now c.requires.rests.nothing_waits c.requires.rests k r c.args.data.now before (c.has_carried_all.ensures.all.0 c.if-has_carried_all.true)
