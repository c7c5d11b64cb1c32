use Rattle.slotted_model_rules.proofs.Laws.{representing-laws}
use Rattle.slotted_model_rules.proofs.pattern.representing_laws_hold.Goals as goal

pub returns : goal.returns
returns c = representing-laws
