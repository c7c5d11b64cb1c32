use Rattle.slotted_model_rules.proofs.Laws.{pattern-laws}
use Rattle.slotted_model_rules.proofs.pattern.pattern_laws_hold.Goals as goal

pub returns : goal.returns
returns c = pattern-laws
