use Rattle.std.proofs.Common.{◌∙◌, arith}
use Rattle.slotted_matching.proofs.Names.{covers-step, covers-all, names_more-trans}
use Rattle.slotted_matching.proofs.naming.name_numbers.Goals as goal

pub loop-number-preserved : goal.loop-number-preserved
loop-number-preserved c =
    let i = c.loop-number.invariant in
    let e = c.in_ok-name_number.ensures in
    record {
      named = covers-step c.loop-number.table c.loop-number.names.items c.name_number.new.table c.name_number.new.names.items c.args.numbers.now c.loop-number.number-index c.loop-number-test.true e.names i.named e.named;
      names = names_more-trans c.args.table.now c.args.names.now.items c.loop-number.table c.loop-number.names.items c.name_number.new.table c.name_number.new.names.items i.names e.names;
      kept = e.takes.names ∙ i.kept;
      taken = omega (arith, e.takes.taken, i.taken);
      more = λ s h. e.more s (i.more s h);
    }

pub returns-clause-named : goal.returns-clause-named
returns-clause-named c = covers-all c.loop-number.names.items c.args.numbers.now c.loop-number.number-index c.loop-number-test.false c.loop-number.invariant.named
