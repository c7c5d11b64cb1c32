-- The pairs so far, and what the rest gives.
use Rattle.std.proofs.Common.{◌≡◌, ◌++◌, drop}
use Rattle.slotted_slots.specs.Maps.{composed}
use Rattle.slotted_slots.proofs.slot_map.SlotMap.compose_partial.Given as goal

abbrev pub invariant-loop-pair : goal.invariant-loop-pair
invariant-loop-pair l = l.pairs.items ++ composed (drop l.pair-index l.pair-items) l.other ≡ composed l.pair-items l.other
