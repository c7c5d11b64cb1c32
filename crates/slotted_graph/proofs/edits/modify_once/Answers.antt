use Rattle.std.proofs.Common.{subst}
use Rattle.slotted_operations.specs.Reports.{class_numbers}
use Rattle.slotted_graph.specs.Rounds.{LeavesModified, Modifies}
use Rattle.slotted_graph.proofs.Leaving.{round-leaves}
use Rattle.slotted_graph.proofs.Saying.{graph-kept, if-ok}
use Rattle.slotted_graph.proofs.edits.modify_once.Goals as goal

pub modify_each-requires : goal.modify_each-requires
modify_each-requires g c = graph-kept c.take_pending.new.self c.take_pending.ensures.rests c.in_ok-ids.ensures.fails.0

pub returns-clause-leaves : goal.returns-clause-leaves
returns-clause-leaves g c =
    let codes = g.N.Analysis.codes in
    let meaning = g.N.Analysis.meaning in
    let ask = g.N.Analysis.may_ask in
    let old = c.args.graph.now in
    let left = c.take_pending.new.self in
    let new = c.modify_each.new.graph in
    if-ok (λ y. Modifies codes meaning ask left (class_numbers c.deref.result.now) new y) (λ y. LeavesModified codes meaning ask old new) c.modify_each.result
    (λ y m. round-leaves codes meaning g.met.N.Analysis.is_merge ask old new y (record {
      classes = class_numbers c.in_ok-ids.ids.items;
      left = left;
      graph = graph-kept left c.take_pending.ensures.rests c.in_ok-ids.ensures.fails.0;
      takes = c.in_ok-ids.ensures.taken;
      same = c.in_ok-ids.ensures.same;
      modifies = subst (λ is. Modifies codes meaning ask left (class_numbers is) new y) c.deref.ensures.value m;
    }))
    c.modify_each.ensures.modifies
