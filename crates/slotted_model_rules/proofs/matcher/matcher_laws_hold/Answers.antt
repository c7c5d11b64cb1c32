use Rattle.slotted_model_rules.proofs.Laws.{matcher-laws}
use Rattle.slotted_model_rules.proofs.matcher.matcher_laws_hold.Goals as goal

pub returns : goal.returns
returns c = matcher-laws
