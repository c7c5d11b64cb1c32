use Rattle.slotted_workspace.proofs.Decisions.{run-decided, run-refused}
use Rattle.slotted_workspace.proofs.deciding.run_rules_decided.Goals as goal

pub returns-clause-ok : goal.returns-clause-ok
returns-clause-ok g c =
    let e = c.run_decided.ensures in
    run-decided g.L.LanguageChildren.form c.args.rules.now c.args.limits c.args.graph.now c.run_decided.new.graph c.run_decided.result e.failed e.run

pub returns-clause-err : goal.returns-clause-err
returns-clause-err g c =
    let e = c.run_decided.ensures in
    run-refused g.L.LanguageChildren.form c.args.rules.now c.args.limits c.args.graph.now c.run_decided.new.graph c.run_decided.result e.failed e.stays e.extends e.err
