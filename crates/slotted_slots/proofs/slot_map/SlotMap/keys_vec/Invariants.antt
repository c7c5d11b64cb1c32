-- The keys so far, and those of the rest.
use Rattle.std.proofs.Common.{◌≡◌, ◌++◌, drop}
use Rattle.slotted_slots.specs.Maps.{keys}
use Rattle.slotted_slots.proofs.slot_map.SlotMap.keys_vec.Given as goal

abbrev pub invariant-loop-pair : goal.invariant-loop-pair
invariant-loop-pair l = l.keys.items ++ keys (drop l.pair-index l.pair-items) ≡ keys l.pair-items
