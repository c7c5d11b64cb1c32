-- The map of the pairs so far.
use Rattle.std.proofs.Common.{◌≡◌}
use Rattle.slotted_slots.specs.Maps.{map_of}
use Rattle.slotted_slots.proofs.slot_map.SlotMap.from_iterator.Given as goal

abbrev pub invariant-loop-pair : goal.invariant-loop-pair
invariant-loop-pair g l = (goal.iterator-loop-pair g).can_next l.pair-iterator
    × (goal.iterator-loop-pair g).is_finite l.pair-iterator
    × (l.map ≡ map_of l.yielded)
