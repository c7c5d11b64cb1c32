use Rattle.std.proofs.Common.{◌<◌, ◌∙◌, length, ap, arith}
use Rattle.std.specs.Prelude.{slice_index}
use Rattle.slotted_nodes.specs.Form.{Form, with_name}
use Rattle.slotted_matching.specs.KeyRows.{blanked}
use Rattle.slotted_matching.proofs.Blanking.{blanked_to-at, blanked_to-all, blanked_to-more, blanked_to-none}
use Rattle.slotted_matching.proofs.rows.blank.Goals as goal

pub loop-i-init : goal.loop-i-init
loop-i-init g c = blanked_to-none c.args.mark (g.L.LanguageChildren.form c.args.outline.now)

pub loop-i-preserved : goal.loop-i-preserved
loop-i-preserved g c =
    let form = g.L.LanguageChildren.form in
    let f : Form = form c.args.outline.now in
    let v = c.args.mark in
    let i = c.loop-i.i in
    let h : i < length f.names = omega (arith, c.loop-i-test.true, c.slot_count-i-end.ensures) in
    let slot = c.blanked-slot.ensures ∙ ap (blanked v) (c.slot.ensures ∙ (ap (λ (f : Form). slice_index f.names i) c.loop-i.invariant ∙ blanked_to-at v f i h)) in
    c.set_slot.ensures ∙ ((λ j. with_name (c.loop-i.invariant j) i (slot j)) ∙ blanked_to-more v f i h)

pub returns : goal.returns
returns g c =
    let form = g.L.LanguageChildren.form in
    let f : Form = form c.args.outline.now in
    c.loop-i.invariant ∙ blanked_to-all c.args.mark f c.loop-i.i (omega (arith, c.loop-i-test.false, c.slot_count-i-end.ensures, c.requires))
