use Rattle.slotted_model_rules.proofs.Laws.{condition-laws}
use Rattle.slotted_model_rules.proofs.rule.condition_laws_hold.Goals as goal

pub returns : goal.returns
returns c = condition-laws
