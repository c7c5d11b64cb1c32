-- No value so far stands again: the rest decides.
use Rattle.std.proofs.Common.{◌≡◌, drop}
use Rattle.slotted_slots.specs.Maps.{values, all_differ}
use Rattle.slotted_slots.proofs.slot_map.SlotMap.is_bijection.Given as goal

abbrev pub invariant-loop-i : goal.invariant-loop-i
invariant-loop-i l = all_differ (values (drop l.i l.pairs)) ≡ all_differ (values l.pairs)
