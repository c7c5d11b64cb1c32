use Rattle.std.proofs.Common.{◌∙◌, arith, ap}
use Rattle.std.specs.Prelude.{unwrap_or}
use Rattle.slotted_classes.proofs.NameMaps.{put_form-step}
use Rattle.slotted_classes.proofs.names.put_at_places.Goals as goal

pub loop-i-preserved : goal.loop-i-preserved
loop-i-preserved g c =
    let form = g.L.LanguageChildren.form in
    put_form-step c.args.map.now (form c.args.node.now) (form c.loop-i.node) (form c.set_slot.new.self) c.loop-i.i c.slot-name.result c.unwrap_or.result
    (omega (arith, c.loop-i-test.true, c.slot_count-i-end.ensures, c.requires)) c.loop-i.invariant c.slot-name.ensures
    (c.unwrap_or.ensures ∙ ap (λ o. unwrap_or o c.slot-name.result) c.get.ensures) c.set_slot.ensures
