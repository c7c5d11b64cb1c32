use Rattle.slotted_model_rules.proofs.Laws.{runner-laws}
use Rattle.slotted_model_rules.proofs.runner.runner_laws_hold.Goals as goal

pub returns : goal.returns
returns g c =
    runner-laws g.row.S.Denot g.row.T.Denot g.row.D.Denot g.row.F.Denot g.row.Q.Denot g.W.Steps.searches g.W.Steps.applies g.W.Steps.hooks
    g.W.Steps.refuses g.W.Steps.extends
