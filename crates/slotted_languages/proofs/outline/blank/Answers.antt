use Rattle.std.proofs.Common.{◌∙◌, arith}
use Rattle.slotted_nodes.specs.Form.{with_name}
use Rattle.slotted_languages.proofs.Outlines.{blank_to-more}
use Rattle.slotted_languages.proofs.outline.blank.Goals as goal

pub loop-i-preserved : goal.loop-i-preserved
loop-i-preserved g c =
    let f = g.L.LanguageChildren.form c.args.node.now in
    c.set_slot.ensures
    ∙ ((λ j. with_name (c.loop-i.invariant j) c.loop-i.i (c.numeric_at.ensures j)) ∙ blank_to-more f c.loop-i.i (omega (arith, c.loop-i-test.true, c.slot_count-i-end.ensures)))
