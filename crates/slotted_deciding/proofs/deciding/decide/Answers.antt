use Rattle.std.proofs.Common.{◌∙◌, inr, sym}
use Rattle.std.specs.Prelude.{IsTrue}
use Rattle.slotted_graph.proofs.Insides.{given}
use Rattle.slotted_deciding.specs.Equality.{IsDecidedGraph}
use Rattle.slotted_deciding.proofs.NoSymmetry.{decided-without, none-listed}
use Rattle.slotted_deciding.proofs.Refusals.{left-fails, left-goes, left-holds, left-ok}
use Rattle.slotted_graph.specs.Analysed.{LowersData}
use Rattle.slotted_graph.proofs.Saying.{lowers-itself}
use Rattle.slotted_deciding.proofs.Growing.{leads-goes, on_ok_by}
use Rattle.slotted_deciding.proofs.deciding.decide.Goals as goal

pub returns-then-is_empty-clause-decided : goal.returns-then-is_empty-clause-decided
returns-then-is_empty-clause-decided g c said =
    decided-without c.args.graph.now (given (sym c.if-is_failed.ensures.failed) c.if-is_failed.ensures.rests)
    (none-listed c.symmetries_met.result.now c.args.graph.now.image.symmetries c.symmetries_met.ensures.list (sym c.is_empty.ensures ∙ c.if-is_empty.true))

pub returns-clause-decided : goal.returns-clause-decided
returns-clause-decided g c =
    let o = c.settle-outcome in
    let f = c.fail_if_refused.ensures in
    left-ok c.args.graph.now o.new.graph c.fail_if_refused.new.graph o.result c.fail_if_refused.result f.same f.refused f.done (λ y h. IsTrue y → IsDecidedGraph h) o.ensures.decided

pub returns-clause-goes : goal.returns-clause-goes
returns-clause-goes g c =
    let o = c.settle-outcome in
    let f = c.fail_if_refused.ensures in
    left-goes c.args.graph.now o.new.graph c.fail_if_refused.new.graph o.result c.fail_if_refused.result f.same f.refused f.done
    (on_ok_by o.result (leads-goes g.N.Analysis.codes g.N.Analysis.meaning c.args.graph.now o.new.graph) o.ensures.goes)

pub returns-clause-lowers : goal.returns-clause-lowers
returns-clause-lowers g c =
    let o = c.settle-outcome in
    let f = c.fail_if_refused.ensures in
    left-holds c.args.graph.now o.new.graph c.fail_if_refused.new.graph o.result c.fail_if_refused.result f.same f.refused f.done (LowersData g.N.Analysis.codes g.N.Analysis.meaning c.args.graph.now)
    (on_ok_by o.result (λ l. l.lowers) o.ensures.goes)

pub returns-then-is_empty-clause-lowers : goal.returns-then-is_empty-clause-lowers
returns-then-is_empty-clause-lowers g c = inr (lowers-itself g.N.Analysis.codes g.N.Analysis.meaning g.met.N.Analysis.is_merge c.args.graph.now)

pub returns-clause-fails : goal.returns-clause-fails
returns-clause-fails g c =
    let o = c.settle-outcome in
    let f = c.fail_if_refused.ensures in
    left-fails c.args.graph.now o.new.graph c.fail_if_refused.new.graph o.result c.fail_if_refused.result f.same f.refused f.done
    (on_ok_by o.result (leads-goes g.N.Analysis.codes g.N.Analysis.meaning c.args.graph.now o.new.graph) o.ensures.goes)
