use Rattle.slotted_match_machine.proofs.AllLaws.{machine-laws}
use Rattle.slotted_match_machine.proofs.laws.machine_laws_hold.Goals as goal

pub returns : goal.returns
returns c = machine-laws
