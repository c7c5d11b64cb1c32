-- What was skipped was in the set.
use Rattle.std.proofs.Common.{◌≡◌, sym, ◌∙◌, ap, arith}
use Rattle.std.specs.Prelude.{true}
use Rattle.slotted_slots.specs.Maps.{is_among}
use Rattle.slotted_slots.proofs.Ascending.{has-is_among}
use Rattle.slotted_slots.proofs.SlotsTaken.{at_most_then, at_most_used, at_most_one}
use Rattle.slotted_slots.proofs.Taken.{takes_one, takes_used}
use Rattle.slotted_slots.proofs.slot_map.combining.fresh_outside.Goals as goal

pub returns-then-not-contains-clause-taken : goal.returns-then-not-contains-clause-taken
returns-then-not-contains-clause-taken c =
    takes_one c.args.table.now c.loop-slot.table c.fresh.new.self c.args.set.now c.in_ok-slot.slot c.in_ok-slot.ensures.slot c.in_ok-slot.ensures.moved c.loop-slot.invariant.skipped

pub loop-slot-preserved : goal.loop-slot-preserved
loop-slot-preserved c =
    let s = c.in_ok-slot.slot in
    let used : is_among s c.args.set.now ≡ true = sym (has-is_among c.args.set.now s) ∙ (sym c.contains.ensures ∙ c.if-not-contains.false) in
    let m = c.in_ok-slot.ensures.moved in
    record {
      on = omega (arith, ap (λ t. t.fresh) m, c.loop-slot.invariant.on);
      names = ap (λ t. t.names) m ∙ c.loop-slot.invariant.names;
      more = λ z k. c.in_ok-slot.ensures.more z (c.loop-slot.invariant.more z k);
      count = at_most_then 0 0 c.args.set.now c.args.table.now c.loop-slot.table c.fresh.new.self c.loop-slot.invariant.count
          (at_most_used c.args.set.now c.loop-slot.table c.fresh.new.self s (ap (λ t. t.fresh) m) c.in_ok-slot.ensures.slot used);
      skipped = takes_used c.args.table.now c.loop-slot.table c.fresh.new.self c.args.set.now s c.in_ok-slot.ensures.slot m c.loop-slot.invariant.skipped used;
    }

pub returns-then-not-contains-clause-count : goal.returns-then-not-contains-clause-count
returns-then-not-contains-clause-count c =
    at_most_then 0 1 c.args.set.now c.args.table.now c.loop-slot.table c.fresh.new.self c.loop-slot.invariant.count
    (at_most_one c.args.set.now c.loop-slot.table c.fresh.new.self (ap (λ t. t.fresh) c.in_ok-slot.ensures.moved))
