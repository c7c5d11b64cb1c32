use Rattle.std.proofs.Common.{◌-◌, map, drop, sym, ◌∙◌, arith}
use Rattle.slotted_slots.specs.Syntax.{element_of}
use Rattle.slotted_terms.proofs.ReaderSteps.{drop_before, ends_in_bracket, bare_before, width_before}
use Rattle.slotted_terms.proofs.reader.last_bracket.Goals as goal

pub returns-then-is_text-clause-some : goal.returns-then-is_text-clause-some
returns-then-is_text-clause-some c =
    let es = map element_of c.args.elements.now in
    let k = c.loop-begin.begin in
    let e = c.index-elements-begin.result in
    let last = drop_before element_of c.args.elements.now k e (omega (arith, c.loop-begin-test.true)) (omega (arith, c.loop-begin.invariant.within)) c.index-elements-begin.is in
    ends_in_bracket es (k - 1) c.loop-begin.count (element_of e) (drop k es) (sym c.is_text.ensures ∙ c.if-is_text.true) last c.loop-begin.invariant.bare c.loop-begin.invariant.width

pub loop-begin-preserved : goal.loop-begin-preserved
loop-begin-preserved c =
    let es = map element_of c.args.elements.now in
    let k = c.loop-begin.begin in
    let e = c.index-elements-begin.result in
    let last = drop_before element_of c.args.elements.now k e (omega (arith, c.loop-begin-test.true)) (omega (arith, c.loop-begin.invariant.within)) c.index-elements-begin.is in
    record {
      within = omega (arith, c.loop-begin.invariant.within, c.loop-begin-test.true, c.child_count-count.ensures.one);
      bare = bare_before (drop (k - 1) es) (element_of e) (drop k es) (sym c.is_text.ensures ∙ c.if-is_text.false) last c.loop-begin.invariant.bare;
      width = width_before (drop (k - 1) es) (element_of e) (drop k es) c.loop-begin.count c.child_count-count.result last c.loop-begin.invariant.width c.child_count-count.ensures.count;
    }
