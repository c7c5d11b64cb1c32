use Rattle.slotted_decided.proofs.DecidedTurns.{goes-extends}
use Rattle.slotted_workspace.proofs.Decisions.{decide-refused, decided-ok}
use Rattle.slotted_workspace.proofs.deciding.decided.Goals as goal

pub returns-clause-ok : goal.returns-clause-ok
returns-clause-ok g c =
    let e = c.decide.ensures in
    decided-ok c.args.graph.now c.decide.new.graph c.decide.result e.failed e.goes e.fails e.decided e.kept

pub returns-clause-err : goal.returns-clause-err
returns-clause-err g c =
    let e = c.decide.ensures in
    decide-refused c.args.graph.now c.decide.new.graph c.decide.result e.failed e.stays e.only

pub returns-clause-extends : goal.returns-clause-extends
returns-clause-extends g c = goes-extends c.args.graph.now c.decide.new.graph c.decide.ensures.goes
