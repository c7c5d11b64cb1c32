-- The loop has gone through all of the set, and its slots rise.
use Rattle.std.proofs.Common.{refl, subst, sym, ap, ◌∙◌}
use Rattle.slotted_slots.specs.Ascending.{IsAscending}
use Rattle.slotted_slots.specs.Maps.{keys, doubled}
use Rattle.slotted_slots.proofs.Ascending.{IsAscending-from_sorted}
use Rattle.slotted_slots.proofs.Loops.{gathered_all, gathered_one}
use Rattle.slotted_slots.proofs.MapLemmas.{keys-doubled}
use Rattle.slotted_slots.proofs.slot_map.SlotMap.identity.Goals as goal

pub invariant_of-result : goal.invariant_of-result
invariant_of-result c =
    let whole = gathered_all doubled refl c.loop-slot.pairs.items c.as_slice-slot-items.result.now c.loop-slot.slot-index c.loop-slot-test.false c.loop-slot.invariant in
    let same = ap keys whole ∙ (keys-doubled c.as_slice-slot-items.result.now ∙ c.as_slice-slot-items.ensures.elements) in
    subst IsAscending (sym same) (IsAscending-from_sorted _ c.as_slice-slot-items.ensures.ascending)

pub loop-slot-preserved : goal.loop-slot-preserved
loop-slot-preserved c =
    let x = c.slot-item.result in
    gathered_one doubled c.loop-slot.pairs.items c.push.new.self.items (x, x) c.as_slice-slot-items.result.now c.loop-slot.slot-index x refl c.loop-slot-test.true c.slot-item.is c.in_ok-push.ensures.items
    ∙ c.loop-slot.invariant

pub returns-clause-ok : goal.returns-clause-ok
returns-clause-ok c =
    let whole = gathered_all doubled refl c.loop-slot.pairs.items c.as_slice-slot-items.result.now c.loop-slot.slot-index c.loop-slot-test.false c.loop-slot.invariant in
    whole ∙ ap doubled c.as_slice-slot-items.ensures.elements
