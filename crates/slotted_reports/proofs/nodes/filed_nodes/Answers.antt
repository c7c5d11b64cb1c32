-- One node after another.
use Rattle.std.proofs.Common.{rules, ◌<◌, ◌+◌, ◌∙◌, take, sym, subst, length, arith}
use Rattle.slotted_proofs.specs.Equations.{to_applied}
use Rattle.slotted_reports.specs.Nodes.{AreAppliedNodes}
use Rattle.slotted_reports.proofs.FreshNodes.{nodes-then, runs_out-then, takes-then, takes-within}
use Rattle.slotted_reports.proofs.nodes.filed_nodes.Goals as goal

pub filed_node-requires-clause-known : goal.filed_node-requires-clause-known
filed_node-requires-clause-known g c j d h = c.loop-i.invariant.more _ (c.requires.known j d h)

pub loop-i-preserved : goal.loop-i-preserved
loop-i-preserved g c =
    let s = c.args.table.now in
    let t = c.loop-i.table in
    let u = c.filed_node.new.table in
    let k = c.args.store.now in
    let r = c.args.nodes.now in
    let a = to_applied c.args.a.now in
    let xs = c.args.sources.now in
    let lt : c.loop-i.i < length xs = omega (arith, c.loop-i-test.true, c.loop-i.auto.i-end) in
    record {
      nodes = subst (AreAppliedNodes g.L.LanguageChildren.form s u k r a (take (c.loop-i.i + 1) xs)) (sym c.in_ok-push.ensures.items)
          (nodes-then g.L.LanguageChildren.form s t u k r a xs c.loop-i.answer.items c.loop-i.i c.in_ok-node.node lt c.loop-i.invariant.more c.in_ok-node.ensures.more c.loop-i.invariant.nodes c.in_ok-node.ensures.key c.in_ok-node.ensures.ok);
      more = λ s h. c.in_ok-node.ensures.more s (c.loop-i.invariant.more s h);
      taken = takes-then r s t u xs c.loop-i.i lt c.loop-i.invariant.taken c.in_ok-node.ensures.takes;
      kept = c.in_ok-node.ensures.kept ∙ c.loop-i.invariant.kept;
    }

pub returns-in_err-node-clause-takes : goal.returns-in_err-node-clause-takes
returns-in_err-node-clause-takes g c =
    let r = c.args.nodes.now in
    let s = c.args.table.now in
    let t = c.loop-i.table in
    let u = c.filed_node.new.table in
    let xs = c.args.sources.now in
    let i = c.loop-i.i in
    let lt : i < length xs = omega (arith, c.loop-i-test.true, c.loop-i.auto.i-end) in
    takes-within r s u xs (i + 1) (takes-then r s t u xs i lt c.loop-i.invariant.taken c.filed_node.ensures.takes)

pub returns-in_err-push-clause-takes : goal.returns-in_err-push-clause-takes
returns-in_err-push-clause-takes g c =
    let r = c.args.nodes.now in
    let s = c.args.table.now in
    let t = c.loop-i.table in
    let u = c.filed_node.new.table in
    let xs = c.args.sources.now in
    let i = c.loop-i.i in
    let lt : i < length xs = omega (arith, c.loop-i-test.true, c.loop-i.auto.i-end) in
    takes-within r s u xs (i + 1) (takes-then r s t u xs i lt c.loop-i.invariant.taken c.filed_node.ensures.takes)

pub returns-in_err-node-clause-full : goal.returns-in_err-node-clause-full
returns-in_err-node-clause-full g c e =
    let xs = c.args.sources.now in
    let i = c.loop-i.i in
    let lt : i < length xs = omega (arith, c.loop-i-test.true, c.loop-i.auto.i-end) in
    runs_out-then c.args.nodes.now c.args.table.now c.loop-i.table c.filed_node.new.table xs i lt c.loop-i.invariant.taken (c.in_err-node.ensures.full (search rules))
