use Rattle.slotted_workspace.proofs.Origins.{rules-ran}
use Rattle.slotted_workspace.proofs.workspace.Workspace.saturate.Goals as goal

pub returns-clause-ok : goal.returns-clause-ok
returns-clause-ok g c =
    rules-ran g.L.LanguageChildren.form c.args.limits c.args.self.now c.run.new.self c.in_ok-report.report c.is_saturated.result c.is_saturated.ensures c.in_ok-report.ensures.ok
