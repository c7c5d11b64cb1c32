use Rattle.std.proofs.Common.{arith}
use Rattle.slotted_languages.proofs.Occurrences.{kept_among, added_among}
use Rattle.slotted_languages.proofs.TakenNames.{within_among}
use Rattle.slotted_languages.proofs.renaming.add_names.Goals as goal

pub loop-i-preserved : goal.loop-i-preserved
loop-i-preserved g c =
    let names = (g.L.LanguageChildren.form c.args.node.now).names in
    let e = c.in_ok-insert.ensures.ok in
    record {
      kept = λ x h. kept_among c.loop-i.set c.insert.new.self c.slot.result x e (c.loop-i.invariant.kept x h);
      added = λ x h. added_among c.loop-i.set c.insert.new.self names c.loop-i.i c.slot.result x e c.slot.ensures (omega (arith, c.loop-i-test.true, c.slot_count-i-end.ensures)) (c.loop-i.invariant.added x) h;
      within = λ x h. within_among c.args.set.now c.loop-i.set c.insert.new.self names c.loop-i.i c.slot.result x e c.slot.ensures (omega (arith, c.loop-i-test.true, c.slot_count-i-end.ensures)) (c.loop-i.invariant.within x) h;
    }
