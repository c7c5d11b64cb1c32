use Rattle.std.proofs.Common.{◌<◌, ◌∙◌, length, sym, ap, arith}
use Rattle.slotted_slots.specs.Maps.{is_among}
use Rattle.slotted_languages.proofs.Fills.{outside_put, outside_skip}
use Rattle.slotted_languages.proofs.fresh.names_outside.Goals as goal
use Rattle.slotted_languages.proofs.fresh.names_outside.Goals.{then-not-contains+in_ok-insert, else-not-contains}

pub loop-i-preserved : goal.loop-i-preserved
loop-i-preserved g c =
    let names = (g.L.LanguageChildren.form c.args.node.now).names in
    let lt : c.loop-i.i < length names = omega (arith, c.loop-i-test.true, c.slot_count-i-end.ensures) in
    elim c.if-not-contains.branch [
      | then-not-contains+in_ok-insert w ↦ λ x.
          ap (is_among x) w.outside-is
          ∙ outside_put c.args.set.now c.loop-i.outside w.insert.new.self names c.loop-i.i c.slot-name.result c.slot-name.ensures lt w.in_ok-insert.ensures.ok (sym c.contains.ensures ∙ w.if-not-contains.true) c.loop-i.invariant x
      | else-not-contains w ↦ λ x.
          ap (is_among x) w.outside-is
          ∙ outside_skip c.args.set.now c.loop-i.outside names c.loop-i.i c.slot-name.result c.slot-name.ensures lt (sym c.contains.ensures ∙ w.if-not-contains.false) c.loop-i.invariant x
    ]
