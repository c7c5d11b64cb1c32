-- The keys stay.
use Rattle.slotted_slots.proofs.MapLemmas.{IsAscending-with_value_at}
use Rattle.slotted_slots.proofs.slot_map.SlotMap.set_value_at.Goals as goal

pub invariant_of-self : goal.invariant_of-self
invariant_of-self c = rw c.write_value.ensures (IsAscending-with_value_at _ _ _ c.self.invariant)
