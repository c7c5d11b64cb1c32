use Rattle.std.proofs.Common.{◌∙◌, ◌+◌, ap, arith, sym}
use Rattle.std.specs.Prelude.{◌||◌}
use Rattle.slotted_graph.proofs.Insides.{given}
use Rattle.slotted_graph.specs.Rounds.{no_rounds}
use Rattle.slotted_graph.proofs.Leaving.{rounds-leave, rounds-then, some-wait}
use Rattle.slotted_graph.proofs.Saying.{more-then}
use Rattle.slotted_graph.proofs.edits.modify_in_rounds.Goals.{then-branch, else-branch}
use Rattle.slotted_graph.proofs.edits.modify_in_rounds.Goals as goal

pub loop-init : goal.loop-init
loop-init g c =
    let is = given (sym c.is_failed.ensures.failed ∙ c.if-is_failed.false) c.is_failed.ensures.rests in
    (is, is, no_rounds)

pub returns-then-pending_classes-eq0-clause-leaves : goal.returns-then-pending_classes-eq0-clause-leaves
returns-then-pending_classes-eq0-clause-leaves g c = rounds-leave g.N.Analysis.codes g.N.Analysis.meaning g.met.N.Analysis.is_merge g.N.Analysis.may_ask c.loop.invariant.0 c.loop.invariant.2

pub loop-preserved : goal.loop-preserved
loop-preserved g c =
    let codes = g.N.Analysis.codes in
    let meaning = g.N.Analysis.meaning in
    let y = c.loop.asked in
    let inv = c.loop.invariant in (
      inv.0,
      c.in_ok-modify_once.ensures.leaves.graph,
      rounds-then codes meaning g.met.N.Analysis.is_merge g.N.Analysis.may_ask inv.2 (some-wait codes c.loop.graph c.pending_classes.result inv.1 c.pending_classes.ensures c.if-pending_classes-eq0.false)
          c.in_ok-modify_once.ensures.round (c.loop.counter + 1) (omega arith) c.if-branch.asked
          (elim c.if-branch.branch [
            | then-branch w ↦ w.asked-is ∙ sym (ap (λ b. b || y) w.if-branch.true)
            | else-branch w ↦ w.asked-is ∙ sym (ap (λ b. b || y) w.if-branch.false)
          ]),
    )

pub returns-clause-leaves : goal.returns-clause-leaves
returns-clause-leaves g c = rounds-leave g.N.Analysis.codes g.N.Analysis.meaning g.met.N.Analysis.is_merge g.N.Analysis.may_ask c.loop.invariant.0 c.loop.invariant.2

pub returns-then-pending_classes-eq0-clause-more : goal.returns-then-pending_classes-eq0-clause-more
returns-then-pending_classes-eq0-clause-more g c = (rounds-leave g.N.Analysis.codes g.N.Analysis.meaning g.met.N.Analysis.is_merge g.N.Analysis.may_ask c.loop.invariant.0 c.loop.invariant.2).extends.more

pub returns-in_err-modify_once-clause-more : goal.returns-in_err-modify_once-clause-more
returns-in_err-modify_once-clause-more g c =
    let before = rounds-leave g.N.Analysis.codes g.N.Analysis.meaning g.met.N.Analysis.is_merge g.N.Analysis.may_ask c.loop.invariant.0 c.loop.invariant.2 in
    more-then c.args.graph.now.table c.loop.graph.table c.modify_once.new.graph.table before.extends.more c.modify_once.ensures.more

pub returns-clause-more : goal.returns-clause-more
returns-clause-more g c = (rounds-leave g.N.Analysis.codes g.N.Analysis.meaning g.met.N.Analysis.is_merge g.N.Analysis.may_ask c.loop.invariant.0 c.loop.invariant.2).extends.more
