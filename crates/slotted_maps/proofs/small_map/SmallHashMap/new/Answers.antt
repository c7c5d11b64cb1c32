-- No keys rise.
use Rattle.std.proofs.Common.{refl}
use Rattle.slotted_slots.proofs.SetLemmas.{IsStrictlySortedBy-nil}
use Rattle.slotted_maps.proofs.small_map.SmallHashMap.new.Goals as goal

pub invariant_of-result : goal.invariant_of-result
invariant_of-result g c = rw (c.new.ensures.items, c.new-2.ensures.items) (record { same_length = refl; ascending = IsStrictlySortedBy-nil _ })
