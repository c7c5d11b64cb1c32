use Rattle.slotted_model_rules.proofs.Laws.{substitution-laws}
use Rattle.slotted_model_rules.proofs.substitution.substitution_laws_hold.Goals as goal

pub returns : goal.returns
returns c = substitution-laws
