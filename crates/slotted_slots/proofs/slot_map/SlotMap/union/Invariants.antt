-- The rest of the pairs goes in after those so far.
use Rattle.std.proofs.Common.{◌≡◌, drop}
use Rattle.slotted_slots.specs.Combining.{joined}
use Rattle.slotted_slots.proofs.slot_map.SlotMap.union.Given as goal

abbrev pub invariant-loop-pair : goal.invariant-loop-pair
invariant-loop-pair l = joined l.union (drop l.pair-index l.pair-items) ≡ joined l.fn.self l.pair-items
