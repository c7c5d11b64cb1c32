use Rattle.std.proofs.Common.{◌∙◌, sym}
use Rattle.slotted_graph.proofs.Insides.{given}
use Rattle.slotted_graph.specs.Rounds.{LeavesModified, ModifiesClass}
use Rattle.slotted_graph.proofs.Leaving.{class-leaves, leaves-itself}
use Rattle.slotted_graph.proofs.Saying.{handed-on, if-ok}
use Rattle.slotted_graph.proofs.edits.modify_class.Goals as goal

pub returns-then-not-is_alive-clause-leaves : goal.returns-then-not-is_alive-clause-leaves
returns-then-not-is_alive-clause-leaves g c = leaves-itself g.N.Analysis.codes g.N.Analysis.meaning g.met.N.Analysis.is_merge g.N.Analysis.may_ask c.args.graph.now (given (sym c.is_failed.ensures.failed ∙ c.if-is_failed.false) c.is_failed.ensures.rests)

pub returns-clause-leaves : goal.returns-clause-leaves
returns-clause-leaves g c =
    let codes = g.N.Analysis.codes in
    let meaning = g.N.Analysis.meaning in
    let ask = g.N.Analysis.may_ask in
    let old = c.args.graph.now in
    let id = c.args.id.0 in
    handed-on (λ y h. LeavesModified codes meaning ask old h) c.modify_live-answer.result c.fail_if_refused.result c.modify_live-answer.new.graph c.fail_if_refused.new.graph c.fail_if_refused.ensures.same c.fail_if_refused.ensures.stays
    (if-ok (λ y. ModifiesClass codes meaning ask old id c.modify_live-answer.new.graph y) (λ y. LeavesModified codes meaning ask old c.modify_live-answer.new.graph) c.modify_live-answer.result
    (λ y m. class-leaves codes meaning g.met.N.Analysis.is_merge ask old id c.modify_live-answer.new.graph y (given (sym c.is_failed.ensures.failed ∙ c.if-is_failed.false) c.is_failed.ensures.rests) m) c.modify_live-answer.ensures.ok)
