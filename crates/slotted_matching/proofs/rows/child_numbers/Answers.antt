use Rattle.std.proofs.Common.{ℕ, ◌∙◌, ◌<◌, ◌∷◌, ◌++◌, [], length, map, take, ap, sym, arith}
use Rattle.std.proofs.lemmas.List.{take_more, map_push, length-map}
use Rattle.std.proofs.lemmas.Option.{get_or_from_slice_get}
use Rattle.slotted_slots.specs.Maps.{values}
use Rattle.slotted_matching.specs.KeyRows.{slot_number}
use Rattle.slotted_matching.proofs.rows.child_numbers.Goals as goal

pub loop-i-preserved : goal.loop-i-preserved
loop-i-preserved c =
    let vs = values c.args.m.now in
    let i = c.loop-i.i in
    let h : i < length vs = omega (arith, c.loop-i-test.true, c.len-i-end.ensures.len, length-map c.args.m.now (λ (p : ℕ × ℕ). p.1)) in
    let at = get_or_from_slice_get vs i c.value_at.result 0 c.value_at.ensures in
    c.in_ok-push.ensures.items
    ∙ ((λ j. c.loop-i.invariant j ++ (c.slot_number.ensures ∙ ap slot_number (sym at)) j ∷ [])
    ∙ (sym (map_push slot_number (take i vs) _) ∙ ap (map slot_number) (sym (take_more vs i 0 h))))
