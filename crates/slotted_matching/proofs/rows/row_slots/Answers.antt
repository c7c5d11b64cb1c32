use Rattle.std.proofs.Common.{◌∙◌, ◌∷◌, ◌++◌, [], sym, arith}
use Rattle.std.proofs.lemmas.List.FromFn.{map-range_with_len_more}
use Rattle.slotted_slots.specs.Maps.{value_of}
use Rattle.slotted_slots.specs.Table.{numeric_slot}
use Rattle.slotted_matching.specs.KeyRows.{position_if}
use Rattle.slotted_matching.proofs.rows.row_slots.Goals as goal

pub loop-number-preserved : goal.loop-number-preserved
loop-number-preserved c =
    let z = c.loop-number.number in
    c.in_ok-push.ensures.items
    ∙ ((λ j. c.loop-number.invariant j ++ c.number_position.ensures j ∷ [])
    ∙ sym (map-range_with_len_more (λ z. position_if c.args.found.now (value_of c.args.names.now (numeric_slot z))) 0 z z (omega arith)))
