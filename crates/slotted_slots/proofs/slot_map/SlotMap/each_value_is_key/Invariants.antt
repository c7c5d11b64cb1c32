-- There is a key to each value so far: the rest decides.
use Rattle.std.proofs.Common.{◌≡◌, drop}
use Rattle.std.specs.Prelude.{is_some}
use Rattle.std.specs.List.{list_all}
use Rattle.slotted_slots.specs.Maps.{value_of, values}
use Rattle.slotted_slots.proofs.slot_map.SlotMap.each_value_is_key.Given as goal

abbrev pub invariant-loop-pair : goal.invariant-loop-pair
invariant-loop-pair l = list_all (λ v. is_some (value_of l.self v)) (values (drop l.pair-index l.pair-items)) ≡ list_all (λ v. is_some (value_of l.self v)) (values l.pair-items)
