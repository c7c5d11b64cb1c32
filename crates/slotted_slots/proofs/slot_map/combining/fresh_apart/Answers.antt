-- What was skipped was in use.
use Rattle.std.proofs.Common.{◌≡◌, ◌++◌, sym, ◌∙◌, ap, arith}
use Rattle.std.specs.Prelude.{true}
use Rattle.slotted_lists.proofs.Maps.{is_among-left, is_among-right}
use Rattle.slotted_slots.specs.Maps.{is_among, values}
use Rattle.slotted_slots.proofs.SlotsTaken.{at_most_then, at_most_used, at_most_one}
use Rattle.slotted_slots.proofs.Taken.{takes_one, takes_used}
use Rattle.slotted_slots.proofs.slot_map.combining.fresh_apart.Goals as goal
use Rattle.slotted_slots.proofs.slot_map.combining.fresh_apart.Goals.{else-not-has_value-via-then-not-has_value+else-not-has_value-2, else-not-has_value-via-else-not-has_value}

pub returns-then-not-has_value-2-clause-taken : goal.returns-then-not-has_value-2-clause-taken
returns-then-not-has_value-2-clause-taken c =
    takes_one c.args.table.now c.loop-slot.table c.fresh.new.self (values c.args.first.now ++ values c.args.second.now) c.in_ok-slot.slot c.in_ok-slot.ensures.slot c.in_ok-slot.ensures.moved c.loop-slot.invariant.skipped

pub loop-slot-preserved : goal.loop-slot-preserved
loop-slot-preserved c =
    let s = c.in_ok-slot.slot in
    let vs = values c.args.first.now in
    let ws = values c.args.second.now in
    let used : is_among s (vs ++ ws) ≡ true =
    elim c.else-not-has_value.branch [
      | else-not-has_value-via-then-not-has_value+else-not-has_value-2 w ↦ is_among-right vs ws s (sym w.has_value-then-not-has_value.ensures ∙ w.if-not-has_value-2.false)
      | else-not-has_value-via-else-not-has_value w ↦ is_among-left vs ws s (sym c.has_value.ensures ∙ w.if-not-has_value.false)
    ] in
    let m = c.in_ok-slot.ensures.moved in
    record {
      on = omega (arith, ap (λ t. t.fresh) m, c.loop-slot.invariant.on);
      names = ap (λ t. t.names) m ∙ c.loop-slot.invariant.names;
      more = λ z k. c.in_ok-slot.ensures.more z (c.loop-slot.invariant.more z k);
      count = at_most_then 0 0 (vs ++ ws) c.args.table.now c.loop-slot.table c.fresh.new.self c.loop-slot.invariant.count
          (at_most_used (vs ++ ws) c.loop-slot.table c.fresh.new.self s (ap (λ t. t.fresh) m) c.in_ok-slot.ensures.slot used);
      skipped = takes_used c.args.table.now c.loop-slot.table c.fresh.new.self (vs ++ ws) s c.in_ok-slot.ensures.slot m c.loop-slot.invariant.skipped used;
    }

pub returns-then-not-has_value-2-clause-count : goal.returns-then-not-has_value-2-clause-count
returns-then-not-has_value-2-clause-count c =
    at_most_then 0 1 (values c.args.first.now ++ values c.args.second.now) c.args.table.now c.loop-slot.table c.fresh.new.self c.loop-slot.invariant.count
    (at_most_one (values c.args.first.now ++ values c.args.second.now) c.loop-slot.table c.fresh.new.self (ap (λ t. t.fresh) c.in_ok-slot.ensures.moved))
