-- No key so far has two values: the rest decides.
use Rattle.std.proofs.Common.{◌≡◌, drop}
use Rattle.slotted_slots.specs.Combining.{agrees_with}
use Rattle.slotted_slots.proofs.slot_map.SlotMap.agrees_with.Given as goal

abbrev pub invariant-loop-pair : goal.invariant-loop-pair
invariant-loop-pair l = agrees_with (drop l.pair-index l.pair-items) l.other ≡ agrees_with l.pair-items l.other
