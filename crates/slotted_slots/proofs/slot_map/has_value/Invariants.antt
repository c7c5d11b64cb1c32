-- None so far is the value: the rest decides.
use Rattle.std.proofs.Common.{◌≡◌, drop}
use Rattle.slotted_slots.specs.Maps.{values, is_among}
use Rattle.slotted_slots.proofs.slot_map.has_value.Given as goal

abbrev pub invariant-loop-pair : goal.invariant-loop-pair
invariant-loop-pair l = is_among l.v (values (drop l.pair-index l.pairs)) ≡ is_among l.v (values l.pairs)
