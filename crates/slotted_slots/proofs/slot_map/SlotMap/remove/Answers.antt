-- The pair goes that was found; with none the map stays.
use Rattle.std.proofs.Common.{sym}
use Rattle.slotted_slots.proofs.MapLemmas.{without_key-at, without_key-gap, IsAscending-without_key}
use Rattle.slotted_slots.proofs.slot_map.SlotMap.remove.Goals as goal

pub invariant_of-self : goal.invariant_of-self
invariant_of-self c =
    let gone = without_key-at _ c.in-Ok.ensures.ascending _ _ c.in-Ok.ensures.found in
    rw (c.remove.ensures.items, c.self.view_is, ← gone) (IsAscending-without_key _ _ c.in-Ok.ensures.ascending)

pub returns-in-Ok : goal.returns-in-Ok
returns-in-Ok c = rw (c.remove.ensures.items, c.self.view_is) (sym (without_key-at _ c.in-Ok.ensures.ascending _ _ c.in-Ok.ensures.found))

pub returns-in_default : goal.returns-in_default
returns-in_default c = sym (without_key-gap _ _ _ c.in_default.ensures.absent)
