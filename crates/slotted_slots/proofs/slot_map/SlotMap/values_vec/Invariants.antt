-- The values so far, and those of the rest.
use Rattle.std.proofs.Common.{◌≡◌, ◌++◌, drop}
use Rattle.slotted_slots.specs.Maps.{values}
use Rattle.slotted_slots.proofs.slot_map.SlotMap.values_vec.Given as goal

abbrev pub invariant-loop-pair : goal.invariant-loop-pair
invariant-loop-pair l = l.values.items ++ values (drop l.pair-index l.pair-items) ≡ values l.pair-items
