use Rattle.std.proofs.Common.{◌<◌, ◌∙◌, length, sym, ap, arith}
use Rattle.slotted_slots.specs.Maps.{is_among}
use Rattle.slotted_languages.proofs.Fills.{within_put, within_skip}
use Rattle.slotted_languages.proofs.fresh.names_within.Goals as goal
use Rattle.slotted_languages.proofs.fresh.names_within.Goals.{then-contains+in_ok-insert, else-contains}

pub loop-i-preserved : goal.loop-i-preserved
loop-i-preserved g c =
    let names = (g.L.LanguageChildren.form c.args.node.now).names in
    let lt : c.loop-i.i < length names = omega (arith, c.loop-i-test.true, c.slot_count-i-end.ensures) in
    elim c.if-contains.branch [
      | then-contains+in_ok-insert w ↦ λ x.
          ap (is_among x) w.within-is
          ∙ within_put c.args.set.now c.loop-i.within w.insert.new.self names c.loop-i.i c.slot-name.result c.slot-name.ensures lt w.in_ok-insert.ensures.ok (sym c.contains.ensures ∙ w.if-contains.true) c.loop-i.invariant x
      | else-contains w ↦ λ x.
          ap (is_among x) w.within-is
          ∙ within_skip c.args.set.now c.loop-i.within names c.loop-i.i c.slot-name.result c.slot-name.ensures lt (sym c.contains.ensures ∙ w.if-contains.false) c.loop-i.invariant x
    ]
