use Rattle.slotted_model_rules.proofs.Laws.{replaced-id-laws}
use Rattle.slotted_model_rules.proofs.substitution.replaced_id_laws_hold.Goals as goal

pub returns : goal.returns
returns c = replaced-id-laws
