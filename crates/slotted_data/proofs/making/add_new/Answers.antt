use Rattle.std.proofs.Common.{◌≡◌, ◌+◌, ◌<◌, length, sym, ◌∙◌, ap, arith}
use Rattle.std.proofs.lemmas.List.{length-append}
use Rattle.slotted_data.proofs.NewData.{new-none, new-next}
use Rattle.slotted_data.proofs.making.add_new.Goals as goal

pub loop-i-init : goal.loop-i-init
loop-i-init g c = record {
  new = new-none (g.N.Analysis.meaning c.args.analysis.now) c.args.store.now c.args.data.now;
  count = sym c.count-i.ensures.count;
  within = omega (arith, c.requires.within, c.count-i.ensures.count, c.class_count-i-end.ensures);
}

pub loop-i-preserved : goal.loop-i-preserved
loop-i-preserved g c =
    let inv = c.loop-i.invariant in
    let next = c.in_ok-add_next.ensures.ok in
    let count : length c.add_next.new.data.values ≡ length c.loop-i.data.values + 1 = ap length next.new.values ∙ length-append c.loop-i.data.values _ in
    let within : length c.loop-i.data.values < length c.args.store.now.classes = omega (arith, inv.count, c.loop-i-test.true, c.class_count-i-end.ensures) in
    record {
      new = new-next (g.N.Analysis.meaning c.args.analysis.now) c.args.store.now c.requires.canonical c.args.data.now c.loop-i.data c.add_next.new.data inv.new next within;
      count = omega (arith, count, inv.count);
      within = omega (arith, c.loop-i-test.true);
    }
