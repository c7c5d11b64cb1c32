use Rattle.slotted_model_rules.proofs.Laws.{goal-laws}
use Rattle.slotted_model_rules.proofs.matcher.goal_laws_hold.Goals as goal

pub returns : goal.returns
returns c = goal-laws
