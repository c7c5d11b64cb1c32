-- The pairs so far, and those of the rest.
use Rattle.std.proofs.Common.{◌≡◌, ◌++◌, drop}
use Rattle.slotted_slots.specs.Maps.{doubled}
use Rattle.slotted_slots.proofs.slot_map.SlotMap.identity.Given as goal

abbrev pub invariant-loop-slot : goal.invariant-loop-slot
invariant-loop-slot l = l.pairs.items ++ doubled (drop l.slot-index l.slot-items) ≡ doubled l.slot-items
