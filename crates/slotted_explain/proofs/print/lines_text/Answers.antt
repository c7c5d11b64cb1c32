-- Each turn prints one line more.
use Rattle.std.proofs.Common.{◌<◌, ◌+◌, ◌∙◌, length, take, ap, sym, subst, arith, rules, string_bytes}
use Rattle.slotted_graph.specs.Graph.{Graph, OnlyTakesSlots}
use Rattle.slotted_graph.specs.Image.{Image}
use Rattle.slotted_graph.proofs.CallerLemmas.{takes_twice}
use Rattle.slotted_graph.proofs.Tables.{makes-more}
use Rattle.slotted_explain.specs.Printed.{ArePrinted, MakesForLines, lines_binders}
use Rattle.slotted_explain.proofs.SlotsOfLines.{binders-first, line_makes, all_make, line_lacks}
use Rattle.slotted_explain.proofs.PrintedLines.{at_line, one_more, line_in, none_there, printed_later}
use Rattle.slotted_explain.proofs.print.lines_text.Goals.{in-Some+in_ok-push_line, in_default}
use Rattle.slotted_explain.proofs.print.lines_text.Goals as goal

pub push_line-requires-clause-well : goal.push_line-requires-clause-well
push_line-requires-clause-well g c h = c.requires.well (sym c.loop-i.invariant.takes.reads.failed ∙ h)

pub push_line-requires-clause-within : goal.push_line-requires-clause-within
push_line-requires-clause-within g c =
    let lt : c.loop-i.i < length c.args.lines.now = omega (arith, c.loop-i-test.true, c.len-i-end.ensures) in
    let is = at_line c.args.lines.now c.loop-i.i c.in-Some.entry lt (sym c.get.ensures ∙ c.in-Some.is) in
    let below = c.requires.within c.loop-i.i 0 lt in
    omega (arith, below, is, ap (λ (x : Image). length x.stored) c.loop-i.invariant.takes.reads.image)

pub loop-i-preserved : goal.loop-i-preserved
loop-i-preserved g c =
    let lines = c.args.lines.now in
    let lt : c.loop-i.i < length lines = omega (arith, c.loop-i-test.true, c.len-i-end.ensures) in
    let inv = c.loop-i.invariant in
    elim c.match-get.branch [
      | in-Some+in_ok-push_line w ↦
          let done = w.in_ok-push_line.ensures in
          let entry = w.in-Some.entry in
          let is = at_line lines c.loop-i.i entry lt (sym c.get.ensures ∙ w.in-Some.is) in
          let fst = c.args.graph.now in
          let mid = c.loop-i.graph in
          let line = line_in g.L.Printable.written fst mid inv.takes w.push_line.new.graph lines c.loop-i.i entry done.line.0 done.line.1 in
          let earlier = printed_later g.L.Printable.written fst mid w.push_line.new.graph done.takes.reads.more lines c.loop-i.i (string_bytes c.loop-i.text) inv.printed in
          let printed = one_more g.L.Printable.written fst w.push_line.new.graph lines c.loop-i.i entry (string_bytes c.loop-i.text) done.line.0 (string_bytes c.match-get.text) is earlier line (ap string_bytes w.text-is ∙ done.line.2) in
          record {
            printed = subst (λ (x : Graph). ArePrinted g.L.Printable.written fst x lines (c.loop-i.i + 1) (string_bytes c.match-get.text)) (sym w.graph-is) printed;
            takes = subst (OnlyTakesSlots fst) (sym w.graph-is) (takes_twice fst mid _ inv.takes done.takes);
            made = subst (λ (x : Graph). MakesForLines fst x (take (c.loop-i.i + 1) lines)) (sym w.graph-is) (line_makes fst mid w.push_line.new.graph lines c.loop-i.i entry lt is inv.takes.reads.image inv.made w.push_line.ensures.count);
          }
      | in_default w ↦ absurd (none_there lines c.loop-i.i lt (sym c.get.ensures ∙ w.in_default.is))
    ]

pub returns-clause-count : goal.returns-clause-count
returns-clause-count g c =
    makes-more (lines_binders c.args.graph.now.image (take c.loop-i.i c.args.lines.now)) (lines_binders c.args.graph.now.image c.args.lines.now) c.args.graph.now.table c.loop-i.graph.table c.loop-i.invariant.made
    (binders-first c.args.graph.now.image c.args.lines.now c.loop-i.i)

pub returns-in_err-push_line-clause-count : goal.returns-in_err-push_line-clause-count
returns-in_err-push_line-clause-count g c =
    let lt : c.loop-i.i < length c.args.lines.now = omega (arith, c.loop-i-test.true, c.len-i-end.ensures) in
    let is = at_line c.args.lines.now c.loop-i.i c.in-Some.entry lt (sym c.get.ensures ∙ c.in-Some.is) in
    all_make c.args.graph.now c.loop-i.graph c.push_line.new.graph c.args.lines.now c.loop-i.i c.in-Some.entry lt is c.loop-i.invariant.takes.reads.image c.loop-i.invariant.made c.push_line.ensures.count

pub returns-in_err-push_line-clause-full : goal.returns-in_err-push_line-clause-full
returns-in_err-push_line-clause-full g c e =
    let lt : c.loop-i.i < length c.args.lines.now = omega (arith, c.loop-i-test.true, c.len-i-end.ensures) in
    let is = at_line c.args.lines.now c.loop-i.i c.in-Some.entry lt (sym c.get.ensures ∙ c.in-Some.is) in
    line_lacks c.args.graph.now c.loop-i.graph c.push_line.new.graph c.args.lines.now c.loop-i.i c.in-Some.entry lt is c.loop-i.invariant.takes.reads.image c.loop-i.invariant.made (c.in_err-push_line.ensures.full (search rules))
