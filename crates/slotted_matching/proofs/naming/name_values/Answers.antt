use Rattle.std.proofs.Common.{rules, ap, sym, ◌∙◌, arith, subst, length, take, length-append}
use Rattle.slotted_matching.specs.Naming.{Covers, numbers_of}
use Rattle.slotted_matching.proofs.Names.{covers-next, covers-more, names_more-trans, numbers-step, numbers-within}
use Rattle.slotted_matching.proofs.naming.name_values.Goals as goal

pub returns-in_err-name_numbers-clause-takes : goal.returns-in_err-name_numbers-clause-takes
returns-in_err-name_numbers-clause-takes c =
    let i = c.loop-value.invariant in
    let e = c.in_err-name_numbers.ensures in
    let w = numbers-within c.args.values.now c.loop-value.value-index c.value-item.result c.loop-value-test.true c.value-item.is in
    record { names = e.takes.names ∙ i.kept; taken = omega (arith, e.takes.taken, i.taken, w, ap length c.deref.ensures.value) }

pub returns-in_err-name_numbers-clause-full : goal.returns-in_err-name_numbers-clause-full
returns-in_err-name_numbers-clause-full c h =
    let i = c.loop-value.invariant in
    let full = c.in_err-name_numbers.ensures.full (search rules) in
    let w = numbers-within c.args.values.now c.loop-value.value-index c.value-item.result c.loop-value-test.true c.value-item.is in
    record { lacks = omega (arith, full.lacks, i.taken, w, ap length c.deref.ensures.value); used = full.used }

pub loop-value-preserved : goal.loop-value-preserved
loop-value-preserved c =
    let i = c.loop-value.invariant in
    let e = c.in_ok-name_numbers.ensures in
    let x = c.value-item.result in
    let before = numbers_of (take c.loop-value.value-index c.args.values.now) in
    let s = numbers-step c.args.values.now c.loop-value.value-index x c.loop-value-test.true c.value-item.is in
    record {
      named = subst (Covers c.name_numbers.new.names.items) (sym s)
          (covers-next c.name_numbers.new.names.items before x.names.items
          (covers-more c.loop-value.names.items c.name_numbers.new.names.items before e.names.stays i.named)
          (subst (Covers c.name_numbers.new.names.items) c.deref.ensures.value e.named));
      names = names_more-trans c.args.table.now c.args.names.now.items c.loop-value.table c.loop-value.names.items c.name_numbers.new.table c.name_numbers.new.names.items i.names e.names;
      kept = e.takes.names ∙ i.kept;
      taken = omega (arith, e.takes.taken, i.taken, ap length s, length-append before x.names.items, ap length c.deref.ensures.value);
      more = λ y h. e.more y (i.more y h);
    }
