use Rattle.std.proofs.Common.{◌≤◌, sym, subst}
use Rattle.std.specs.BinaryHeap.{heap_items}
use Rattle.std.specs.Prelude.{slice_index_or}
use Rattle.std.proofs.lemmas.Result.{on_ok_weaker}
use Rattle.slotted_costs.specs.Costs.{costs_by}
use Rattle.slotted_costs.specs.Entries.{table_of}
use Rattle.slotted_costs.specs.Making.{Told}
use Rattle.slotted_costs.specs.Counts.{times}
use Rattle.slotted_costs.proofs.Ties.{same-form}
use Rattle.slotted_costs.proofs.Turns.{turn-filed, turn-few, turn-ends}
use Rattle.slotted_costs.proofs.making.take_turn.Goals as goal

pub entry_for-requires : goal.entry_for-requires
entry_for-requires g c = turn-filed g.L.LanguageChildren.form g.L.Ord.cmp g.F.Cost.Ord.cmp (g.F.CostFunction.node_cost c.args.costs.now) c.args.store.now c.args.nodes.now c.args.making.now c.args.next c.requires.turn

pub tell_all-requires : goal.tell_all-requires
tell_all-requires g c s =
    subst (λ l. times s l ≤ slice_index_or c.args.making.now.lacking.items s 0) (sym c.of.ensures)
    (turn-few g.L.LanguageChildren.form g.L.Ord.cmp g.F.Cost.Ord.cmp (g.F.CostFunction.node_cost c.args.costs.now) c.args.store.now c.args.nodes.now c.args.making.now c.args.next c.requires.turn
    g.met.F.Cost.Ord.total g.met.L.Ord.total (same-form g.L.LanguageChildren.form g.L.PartialEq.eq g.L.Ord.cmp g.met.L.Ord.matches_eq g.met.L.LanguageChildren.same) c.args.users.now c.requires.users c.args.class c.requires.class c.requires.within c.requires.new_class c.in_ok-entry.entry c.in_ok-entry.ensures.ok s)

pub returns-clause-ok : goal.returns-clause-ok
returns-clause-ok g c =
    let form = g.L.LanguageChildren.form in
    let k = costs_by g.F.Cost.Ord.cmp (g.F.CostFunction.node_cost c.args.costs.now) in
    let m = c.args.making.now in
    let n = c.tell_all.new.making in
    on_ok_weaker c.tell_all.result (λ t.
    turn-ends form g.L.Ord.cmp g.F.Cost.Ord.cmp (g.F.CostFunction.node_cost c.args.costs.now) c.args.store.now c.args.nodes.now m c.args.next c.requires.turn
    g.met.F.Cost.Ord.total g.met.L.Ord.total (same-form g.L.LanguageChildren.form g.L.PartialEq.eq g.L.Ord.cmp g.met.L.Ord.matches_eq g.met.L.LanguageChildren.same) c.args.users.now c.requires.users c.args.class c.requires.class c.requires.within c.requires.new_class c.in_ok-entry.entry c.in_ok-entry.ensures.ok
    n c.enter.new.self t.table c.in_ok-enter.ensures.ok c.enter.ensures.room
    (subst (λ us. Told form k (table_of form c.enter.new.self.entries.items) c.args.nodes.now.filed us m.lacking.items n.lacking.items (heap_items m.queue) (heap_items n.queue)) c.of.ensures t.told) t.heap) c.tell_all.ensures.ok
