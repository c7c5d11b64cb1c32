use Rattle.slotted_decided.proofs.DecidedTurns.{goes-extends}
use Rattle.slotted_workspace.proofs.Decisions.{decide-refused, judged-ok}
use Rattle.slotted_workspace.proofs.Saying.{can-ask}
use Rattle.slotted_workspace.proofs.deciding.judged.Goals as goal

pub decided_eq-requires-clause-left : goal.decided_eq-requires-clause-left
decided_eq-requires-clause-left g c = can-ask c.args.graph.now c.args.left.now c.requires.left

pub decided_eq-requires-clause-right : goal.decided_eq-requires-clause-right
decided_eq-requires-clause-right g c = can-ask c.args.graph.now c.args.right.now c.requires.right

pub returns-clause-ok : goal.returns-clause-ok
returns-clause-ok g c =
    let e = c.decided_eq.ensures in
    judged-ok c.args.graph.now c.decided_eq.new.graph c.args.left.now c.args.right.now c.requires.left c.requires.right c.decided_eq.result e.failed e.goes e.fails e.judged

pub returns-clause-err : goal.returns-clause-err
returns-clause-err g c =
    let e = c.decided_eq.ensures in
    decide-refused c.args.graph.now c.decided_eq.new.graph c.decided_eq.result e.failed e.stays e.only

pub returns-clause-extends : goal.returns-clause-extends
returns-clause-extends g c = goes-extends c.args.graph.now c.decided_eq.new.graph c.decided_eq.ensures.goes
