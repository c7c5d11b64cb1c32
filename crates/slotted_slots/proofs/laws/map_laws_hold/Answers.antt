-- The laws are proved beside.
use Rattle.slotted_slots.proofs.WholeMaps.{map_laws}
use Rattle.slotted_slots.proofs.laws.map_laws_hold.Goals as goal

pub returns : goal.returns
returns c = map_laws
