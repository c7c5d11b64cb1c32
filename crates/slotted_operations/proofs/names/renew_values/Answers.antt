use Rattle.std.proofs.Common.{◌≡◌, ◌<◌, ◌≤◌, ◌+◌, ◌^◌, ◌∙◌, arith, length, ap}
use Rattle.std.specs.Prelude.{slice_set}
use Rattle.slotted_lists.proofs.Maps.{length-values}
use Rattle.slotted_slots.specs.Maps.{keys, values, keys-with_value_at, values-with_value_at}
use Rattle.slotted_slots.specs.Table.{Table, fresh_slot}
use Rattle.slotted_classes.proofs.NameMaps.{fresh_slots-step}
use Rattle.slotted_operations.proofs.names.renew_values.Goals as goal

pub loop-i-preserved : goal.loop-i-preserved
loop-i-preserved c =
    let i = c.loop-i.i in
    let old = c.args.table.now.fresh in
    let l : i < length (values c.args.map.now) = omega (arith, length-values c.args.map.now, c.len-i-end.ensures.len, c.loop-i-test.true) in
    let s : c.in_ok-slot.slot ≡ fresh_slot (old + i) = c.in_ok-slot.ensures.slot ∙ ap (λ (t : Table). fresh_slot t.fresh) c.loop-i.invariant.table in
    let e : old + i + 1 ≡ old + (i + 1) = omega arith in
    record {
      keys = ap keys c.set_value_at.ensures ∙ (keys-with_value_at c.loop-i.map i c.in_ok-slot.slot ∙ c.loop-i.invariant.keys);
      values = ap values c.set_value_at.ensures ∙ (values-with_value_at c.loop-i.map i c.in_ok-slot.slot
          ∙ ((λ j. slice_set (c.loop-i.invariant.values j) i (s j)) ∙ fresh_slots-step old i (values c.args.map.now) l));
      table = c.in_ok-slot.ensures.moved ∙ (ap (λ (t : Table). let r : Table = record t { fresh = t.fresh + 1 } in r) c.loop-i.invariant.table
          ∙ ap (λ n. let r : Table = record c.args.table.now { fresh = n } in r) e);
      more = λ x h. c.fresh.ensures.more x (c.loop-i.invariant.more x h);
      fits = λ h. c.fresh.ensures.table.fresh_fits;
    }

pub returns-clause-limit : goal.returns-clause-limit
returns-clause-limit c =
    λ h.
    let t : c.loop-i.table.fresh ≡ c.args.table.now.fresh + c.loop-i.i = ap (λ (t : Table). t.fresh) c.loop-i.invariant.table in
    let n : c.loop-i.i ≡ length c.args.map.now = omega (arith, c.len-i-end.ensures.len, c.loop-i-test.false, c.loop-i.auto.i-end) in
    let f : c.loop-i.table.fresh ≤ 2 ^ 30 = c.loop-i.invariant.fits (omega (arith, h, n)) in
    omega (arith, h, t, n, f)
