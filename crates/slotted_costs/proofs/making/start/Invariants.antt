-- The rows before one wait if they have no children.
use Rattle.std.specs.BinaryHeap.{heap_items, IsHeap}
use Rattle.slotted_costs.specs.Costs.{costs_by}
use Rattle.slotted_costs.specs.Entries.{table_of}
use Rattle.slotted_costs.specs.Prices.{candidate_cmp}
use Rattle.slotted_costs.proofs.Starting.{StartsWith}
use Rattle.slotted_costs.proofs.making.start.Given as goal

abbrev pub invariant-loop-source : goal.invariant-loop-source
invariant-loop-source g l = record {
  heap : IsHeap (candidate_cmp g.L.Ord.cmp g.F.Cost.Ord.cmp) (heap_items l.queue);
  starts : StartsWith g.L.LanguageChildren.form (costs_by g.F.Cost.Ord.cmp (g.F.CostFunction.node_cost l.costs)) (table_of g.L.LanguageChildren.form l.table.entries.items) l.nodes.filed l.source (heap_items l.queue);
}
