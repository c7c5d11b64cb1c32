-- The loop puts a fresh slot to each element from the left.
use Rattle.std.proofs.Common.{[], ◌∷◌, take, subst, sym, arith, ◌∙◌}
use Rattle.slotted_slots.specs.Combining.{IsFreshFrom, IsNew}
use Rattle.slotted_slots.specs.Maps.{IsInEither, keys}
use Rattle.slotted_slots.proofs.FreshLaws.{IsNew-from_fresh, IsAscending-filled, fresh_among, from_fresh_step}
use Rattle.slotted_slots.proofs.Taken.{takes_key}
use Rattle.slotted_slots.specs.Table.{Takes, TakesAtMost}
use Rattle.std.proofs.lemmas.List.{take_all}
use Rattle.slotted_slots.proofs.slot_map.SlotMap.bijection_from_fresh_to.Goals as goal

pub loop-slot-preserved : goal.loop-slot-preserved
loop-slot-preserved c =
    let xs = c.as_slice-slot-items.result.now in
    let x = c.slot-item.result in
    let last = subst (λ used. IsFreshFrom c.loop-slot.table.fresh c.fresh_outside.new.table.fresh used c.in_ok-key.key) (sym c.as_slice-slot-items.ensures.elements) c.in_ok-key.ensures.slot in
    let step = from_fresh_step xs c.args.table.now.fresh c.loop-slot.table.fresh c.fresh_outside.new.table.fresh xs c.loop-slot.pairs.items c.push.new.self.items c.loop-slot.slot-index x c.in_ok-key.key
    c.loop-slot-test.true c.slot-item.is c.in_ok-push.ensures.items c.loop-slot.invariant.values c.loop-slot.invariant.keys last in
    let counted = subst (λ used. TakesAtMost 1 used c.loop-slot.table c.fresh_outside.new.table) (sym c.as_slice-slot-items.ensures.elements) c.in_ok-key.ensures.count in
    record {
      taken = takes_key c.args.table.now c.loop-slot.table c.fresh_outside.new.table xs c.loop-slot.pairs.items c.push.new.self.items (c.in_ok-key.key, x) c.in_ok-push.ensures.items c.loop-slot.invariant.taken
          (subst (λ used. Takes c.loop-slot.table c.fresh_outside.new.table (IsInEither (c.in_ok-key.key ∷ []) used)) (sym c.as_slice-slot-items.ensures.elements) c.in_ok-key.ensures.taken);
      count = omega (arith, c.loop-slot.invariant.count, counted);
      keys = step.keys;
      values = step.values;
      names = c.in_ok-key.ensures.names ∙ c.loop-slot.invariant.names;
      more = λ s known. c.in_ok-key.ensures.more s (c.loop-slot.invariant.more s known);
    }

pub invariant_of-result : goal.invariant_of-result
invariant_of-result c =
    let xs = c.as_slice-slot-items.result.now in
    IsAscending-filled xs c.args.table.now.fresh c.loop-slot.table.fresh (take c.loop-slot.slot-index xs) (keys c.loop-slot.pairs.items) c.loop-slot.invariant.keys

pub returns-clause-taken : goal.returns-clause-taken
returns-clause-taken c =
    subst (λ used. Takes c.args.table.now c.loop-slot.table (IsInEither (keys c.loop-slot.pairs.items) used)) c.as_slice-slot-items.ensures.elements c.loop-slot.invariant.taken

pub returns-clause-made : goal.returns-clause-made
returns-clause-made c s there =
    let xs = c.as_slice-slot-items.result.now in
    let fresh = fresh_among xs c.args.table.now.fresh c.loop-slot.table.fresh (take c.loop-slot.slot-index xs) (keys c.loop-slot.pairs.items) c.loop-slot.invariant.keys s there in
    subst (λ used. IsNew c.args.table.now c.loop-slot.table used s) c.as_slice-slot-items.ensures.elements (IsNew-from_fresh c.args.table.now c.loop-slot.table xs s fresh)

pub returns-clause-values : goal.returns-clause-values
returns-clause-values c =
    c.loop-slot.invariant.values ∙ (take_all c.loop-slot.slot-index c.as_slice-slot-items.result.now c.loop-slot-test.false ∙ c.as_slice-slot-items.ensures.elements)
