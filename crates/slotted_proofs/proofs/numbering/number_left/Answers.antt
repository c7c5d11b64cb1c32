use Rattle.std.proofs.Common.{◌≡◌, ◌<◌, length, arith, ap, ◌∙◌, sym, add-one}
use Rattle.slotted_slots.specs.Maps.{with_value_at}
use Rattle.slotted_slots.specs.Table.{numeric_slot}
use Rattle.slotted_proofs.proofs.NumberedSides.{named_so_far, named_so_far-step, length-named_so_far, named_so_far-all}
use Rattle.slotted_proofs.proofs.numbering.number_left.Goals as goal

pub set_value_at-requires : goal.set_value_at-requires
set_value_at-requires c =
    let e : length c.loop-i.side ≡ length c.args.map.now = ap length c.loop-i.invariant ∙ length-named_so_far 0 c.loop-i.i c.args.map.now in
    let f : length c.in_ok-side.side ≡ length c.args.map.now = ap length c.in_ok-side.ensures.ok in
    omega (arith, c.len-i-end.ensures.len, c.loop-i-test.true)

pub loop-i-preserved : goal.loop-i-preserved
loop-i-preserved c =
    let f : length c.in_ok-side.side ≡ length c.args.map.now = ap length c.in_ok-side.ensures.ok in
    let l : c.loop-i.i < length c.args.map.now = omega (arith, c.len-i-end.ensures.len, c.loop-i-test.true) in
    c.set_value_at.ensures
    ∙ (ap (λ m. with_value_at m c.loop-i.i c.numeric_at.result) c.loop-i.invariant
    ∙ (named_so_far-step 0 c.loop-i.i c.numeric_at.result c.args.map.now l (c.numeric_at.ensures ∙ ap numeric_slot (omega arith))
    ∙ ap (λ i. named_so_far 0 i c.args.map.now) (sym (add-one c.loop-i.i))))

pub returns-clause-ok : goal.returns-clause-ok
returns-clause-ok c =
    let f : length c.in_ok-side.side ≡ length c.args.map.now = ap length c.in_ok-side.ensures.ok in
    c.loop-i.invariant ∙ named_so_far-all 0 c.loop-i.i c.args.map.now (omega (arith, c.len-i-end.ensures.len, c.loop-i-test.false))
