use Rattle.std.proofs.Common.{◌<◌, length, ap, sym, ◌∙◌, subst, arith}
use Rattle.std.specs.Prelude.{Contains}
use Rattle.std.proofs.lemmas.List.{take_all}
use Rattle.slotted_nodes.specs.Form.{Form}
use Rattle.slotted_matching.specs.KeyRows.{slot_number}
use Rattle.slotted_matching.proofs.Building.{covers-more}
use Rattle.slotted_matching.proofs.rows.number_count.Goals as goal
use Rattle.slotted_matching.proofs.rows.number_count.Goals.{then-count-number, else-count-number}

pub loop-i-preserved : goal.loop-i-preserved
loop-i-preserved g c =
    let f : Form = g.L.LanguageChildren.form c.args.node.now in
    let i = c.loop-i.i in
    let h : i < length f.names = omega (arith, c.loop-i-test.true, c.slot_count-i-end.ensures) in
    let n = c.slot_number-number.ensures ∙ ap slot_number c.slot.ensures in
    elim c.if-count-number.branch [
      | then-count-number w ↦ record {
        covers = covers-more f.names i c.loop-i.count c.if-count-number.count h c.loop-i.invariant.covers (omega (arith, w.count-is, w.if-count-number.true)) (omega (arith, w.count-is, n));
        within = omega (arith, w.count-is, c.slot_number-number.ensures, c.slot.type_inv);
      }
      | else-count-number w ↦ record {
        covers = covers-more f.names i c.loop-i.count c.if-count-number.count h c.loop-i.invariant.covers (omega (arith, w.count-is)) (omega (arith, w.count-is, w.if-count-number.false, n));
        within = omega (arith, w.count-is, c.loop-i.invariant.within);
      }
    ]

pub returns-clause-covers : goal.returns-clause-covers
returns-clause-covers g c =
    let f : Form = g.L.LanguageChildren.form c.args.node.now in
    λ x h. c.loop-i.invariant.covers x (subst (λ l. Contains l x) (sym (take_all c.loop-i.i f.names (omega (arith, c.loop-i-test.false, c.slot_count-i-end.ensures, c.requires)))) h)
