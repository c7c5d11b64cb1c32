-- The key is at the place that was found, or nowhere.
use Rattle.std.proofs.Common.{sym, arith}
use Rattle.std.proofs.lemmas.Grind.{common_steps}
use Rattle.slotted_slots.proofs.MapLemmas.{value_of-at, value_of-gap}
use Rattle.slotted_slots.proofs.slot_map.SlotMap.get.Goals as goal

pub returns-in-Ok : goal.returns-in-Ok
returns-in-Ok c =
    let value = value_of-at _ c.in-Ok.ensures.ascending _ _ c.in-Ok.ensures.found in
    grind (arith, common_steps, value, c.self.view_is)

pub returns-in-Err : goal.returns-in-Err
returns-in-Err c = sym (value_of-gap _ _ _ c.in-Err.ensures.absent)
