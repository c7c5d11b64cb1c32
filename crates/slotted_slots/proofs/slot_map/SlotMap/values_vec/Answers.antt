use Rattle.std.proofs.Common.{refl, ◌∙◌, ap}
use Rattle.slotted_slots.specs.Maps.{values}
use Rattle.slotted_slots.proofs.Loops.{gathered_one, gathered_all}
use Rattle.slotted_slots.proofs.slot_map.SlotMap.values_vec.Goals as goal

pub loop-pair-preserved : goal.loop-pair-preserved
loop-pair-preserved c =
    gathered_one values c.loop-pair.values.items c.push.new.self.items c.pair-item.result.1 c.deref-pair-items.result.now c.loop-pair.pair-index c.pair-item.result refl c.loop-pair-test.true c.pair-item.is c.in_ok-push.ensures.items
    ∙ c.loop-pair.invariant

pub returns-clause-ok : goal.returns-clause-ok
returns-clause-ok c =
    gathered_all values refl c.loop-pair.values.items c.deref-pair-items.result.now c.loop-pair.pair-index c.loop-pair-test.false c.loop-pair.invariant
    ∙ ap values (c.deref-pair-items.ensures.value ∙ c.self.view_is)
