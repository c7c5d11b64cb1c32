-- One row after another.
use Rattle.std.proofs.Common.{◌≡◌, take}
use Rattle.std.specs.BinaryHeap.{heap_items, KeepsHeap}
use Rattle.slotted_costs.specs.Costs.{costs_by}
use Rattle.slotted_costs.specs.Entries.{table_of}
use Rattle.slotted_costs.specs.Prices.{candidate_cmp}
use Rattle.slotted_costs.specs.Making.{Told}
use Rattle.slotted_costs.proofs.making.tell_all.Given as goal

abbrev pub invariant-loop-source : goal.invariant-loop-source
invariant-loop-source g l =
    let k = costs_by g.F.Cost.Ord.cmp (g.F.CostFunction.node_cost l.costs) in
    record {
      table : l.making.table ≡ l.fn.making.table;
      heap : KeepsHeap (candidate_cmp g.L.Ord.cmp g.F.Cost.Ord.cmp) (heap_items l.fn.making.queue) (heap_items l.making.queue);
      told : Told g.L.LanguageChildren.form k (table_of g.L.LanguageChildren.form l.fn.making.table.entries.items) l.nodes.filed (take l.source-index l.sources) l.fn.making.lacking.items l.making.lacking.items (heap_items l.fn.making.queue) (heap_items l.making.queue);
    }
