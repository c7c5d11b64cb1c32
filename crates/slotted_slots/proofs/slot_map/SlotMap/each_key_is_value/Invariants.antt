-- Each key so far is a value too: the rest decides.
use Rattle.std.proofs.Common.{◌≡◌, drop}
use Rattle.std.specs.List.{list_all}
use Rattle.slotted_slots.specs.Maps.{is_among, keys, values}
use Rattle.slotted_slots.proofs.slot_map.SlotMap.each_key_is_value.Given as goal

abbrev pub invariant-loop-pair : goal.invariant-loop-pair
invariant-loop-pair l = list_all (λ k. is_among k (values l.pairs)) (keys (drop l.pair-index l.pairs)) ≡ list_all (λ k. is_among k (values l.pairs)) (keys l.pairs)
