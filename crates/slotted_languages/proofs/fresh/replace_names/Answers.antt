use Rattle.std.proofs.Common.{◌∙◌, ap, arith}
use Rattle.std.specs.Prelude.{unwrap_or}
use Rattle.slotted_languages.proofs.Fills.{one_replaced}
use Rattle.slotted_languages.proofs.fresh.replace_names.Goals as goal

pub loop-i-preserved : goal.loop-i-preserved
loop-i-preserved g c =
    let form = g.L.LanguageChildren.form in
    one_replaced (form c.args.node.now) (form c.loop-i.answer) (form c.set_slot.new.self) c.args.names.now c.loop-i.i c.slot-name.result c.unwrap_or.result
    (omega (arith, c.loop-i-test.true, c.slot_count-i-end.ensures)) c.loop-i.invariant c.slot-name.ensures
    (c.unwrap_or.ensures ∙ ap (λ o. unwrap_or o c.slot-name.result) c.get.ensures) c.set_slot.ensures

pub slot-name-requires : goal.slot-name-requires
slot-name-requires g c = omega (arith, c.loop-i-test.true, c.slot_count-i-end.ensures)
