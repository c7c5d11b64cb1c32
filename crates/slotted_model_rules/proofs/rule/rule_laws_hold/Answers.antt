use Rattle.slotted_model_rules.proofs.Laws.{rule-laws}
use Rattle.slotted_model_rules.proofs.rule.rule_laws_hold.Goals as goal

pub returns : goal.returns
returns g c = rule-laws g.Q.Requests.asks
