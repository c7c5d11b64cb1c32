-- The rest of the values goes in after those so far.
use Rattle.std.proofs.Common.{◌≡◌, drop, fold}
use Rattle.std.specs.Ordering.{nat_cmp}
use Rattle.slotted_slots.specs.Maps.{values}
use Rattle.slotted_slots.specs.Sets.{insert_key, set_of}
use Rattle.slotted_slots.proofs.slot_map.SlotMap.values.Given as goal

abbrev pub invariant-loop-pair : goal.invariant-loop-pair
invariant-loop-pair l = fold (insert_key nat_cmp) l.set (values (drop l.pair-index l.pair-items)) ≡ set_of nat_cmp (values l.pair-items)
