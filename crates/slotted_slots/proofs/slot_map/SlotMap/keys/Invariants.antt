-- The rest of the keys goes in after those so far.
use Rattle.std.proofs.Common.{◌≡◌, drop, fold}
use Rattle.std.specs.Ordering.{nat_cmp}
use Rattle.slotted_slots.specs.Maps.{keys}
use Rattle.slotted_slots.specs.Sets.{insert_key, set_of}
use Rattle.slotted_slots.proofs.slot_map.SlotMap.keys.Given as goal

abbrev pub invariant-loop-pair : goal.invariant-loop-pair
invariant-loop-pair l = fold (insert_key nat_cmp) l.set (keys (drop l.pair-index l.pair-items)) ≡ set_of nat_cmp (keys l.pair-items)
