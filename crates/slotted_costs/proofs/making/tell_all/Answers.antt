use Rattle.std.proofs.Common.{◌∙◌, ◌-◌, subst, get_or}
use Rattle.std.specs.BinaryHeap.{heap_items}
use Rattle.slotted_costs.specs.Costs.{costs_by}
use Rattle.slotted_costs.specs.Entries.{table_of}
use Rattle.slotted_costs.specs.Making.{Tells}
use Rattle.slotted_costs.proofs.Telling.{told-some, told-step}
use Rattle.slotted_costs.proofs.making.tell_all.Goals as goal

pub tell-requires : goal.tell-requires
tell-requires g c =
    let k = costs_by g.F.Cost.Ord.cmp (g.F.CostFunction.node_cost c.args.costs.now) in
    let form = g.L.LanguageChildren.form in
    told-some form k (table_of form c.args.making.now.table.entries.items) c.args.nodes.now.filed c.args.sources.now c.args.making.now.lacking.items c.loop-source.making.lacking.items (heap_items c.args.making.now.queue) (heap_items c.loop-source.making.queue) c.loop-source.source-index 0 c.loop-source.invariant.told c.requires c.loop-source-test.true

pub loop-source-preserved : goal.loop-source-preserved
loop-source-preserved g c =
    let form = g.L.LanguageChildren.form in
    let k = costs_by g.F.Cost.Ord.cmp (g.F.CostFunction.node_cost c.args.costs.now) in
    let v = c.args.nodes.now.filed in
    let table = table_of form c.args.making.now.table.entries.items in
    let m = c.loop-source.making in
    let n = c.tell.new.making in
    let d = get_or c.args.sources.now c.loop-source.source-index 0 in
    record {
      table = c.in_ok-tell.ensures.ok.table ∙ c.loop-source.invariant.table;
      heap = λ h. c.in_ok-tell.ensures.ok.heap (c.loop-source.invariant.heap h);
      told = told-step form k table v c.args.sources.now c.args.making.now.lacking.items m.lacking.items n.lacking.items (heap_items c.args.making.now.queue) (heap_items m.queue) (heap_items n.queue) c.loop-source.source-index c.loop-source-test.true
          c.loop-source.invariant.told
          (told-some form k table v c.args.sources.now c.args.making.now.lacking.items m.lacking.items (heap_items c.args.making.now.queue) (heap_items m.queue) c.loop-source.source-index 0 c.loop-source.invariant.told c.requires c.loop-source-test.true)
          c.in_ok-tell.ensures.ok.lacking
          (subst (λ t. Tells form k (table_of form t.entries.items) v (get_or m.lacking.items d 0 - 1) d (heap_items m.queue) (heap_items n.queue)) c.loop-source.invariant.table c.in_ok-tell.ensures.ok.queue);
    }
