use Rattle.slotted_model_symmetries.proofs.Laws.{deciding-laws}
use Rattle.slotted_model_symmetries.proofs.deciding.deciding_laws_hold.Goals as goal

pub returns : goal.returns
returns c = deciding-laws
