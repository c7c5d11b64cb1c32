use Rattle.std.proofs.Common.{◌≡◌, ◌<◌, ◌+◌, None, length, sym, subst, ◌∙◌, arith}
use Rattle.std.proofs.lemmas.Grind.{get_or_default_zero}
use Rattle.std.specs.BinaryHeap.{heap_items, IsHeap}
use Rattle.std.specs.Prelude.{All}
use Rattle.std.proofs.lemmas.List.Elements.{All-nil}
use Rattle.slotted_costs.specs.Costs.{costs_by}
use Rattle.slotted_costs.specs.Entries.{IsFiledAs, table_of}
use Rattle.slotted_costs.specs.Making.{table_state, IsMaking}
use Rattle.slotted_costs.specs.Prices.{candidate_cmp, children_of, filed_cost}
use Rattle.slotted_costs.proofs.Starting.{StartsWith, row-waits, starts-next, starts-without, making-starts}
use Rattle.slotted_costs.proofs.making.start.Goals as goal
use Rattle.slotted_costs.proofs.making.start.Goals.{then-index-eq0+in_ok-push_row, else-index-eq0}

pub loop-source-preserved : goal.loop-source-preserved
loop-source-preserved g c =
    let form = g.L.LanguageChildren.form in
    let k = costs_by g.F.Cost.Ord.cmp (g.F.CostFunction.node_cost c.args.costs.now) in
    let order = candidate_cmp g.L.Ord.cmp g.F.Cost.Ord.cmp in
    let v = c.args.nodes.now.filed in
    let i = c.loop-source.source in
    let table = table_of form c.in_ok-table.table.entries.items in
    elim c.if-index-eq0.branch [
      | then-index-eq0+in_ok-push_row w ↦ record {
        heap = subst (λ q. IsHeap order (heap_items q)) (sym w.queue-is) (w.in_ok-push_row.ensures.heap c.loop-source.invariant.heap);
        starts = subst (λ q. StartsWith form k table v (i + 1) (heap_items q)) (sym w.queue-is) (starts-next form k table v i _ _ c.loop-source.invariant.starts w.in_ok-push_row.ensures.ok);
      }
      | else-index-eq0 w ↦
          let counts = c.in_ok-lacking.lacking.items in
          let within : i < length counts = omega (arith, c.loop-source-test.true, c.class_count-source-end.ensures, c.in_ok-lacking.ensures.ok.lists) in
          let lacks : 0 < length (children_of v i) = omega (arith, w.if-index-eq0.false, c.index.ensures, get_or_default_zero counts i c.index.result.now within, c.in_ok-lacking.ensures.ok.each i) in
          record {
            heap = subst (λ q. IsHeap order (heap_items q)) (sym w.queue-is) c.loop-source.invariant.heap;
            starts = subst (λ q. StartsWith form k table v (i + 1) (heap_items q)) (sym w.queue-is)
                (starts-without form k table v i (heap_items c.loop-source.queue) c.loop-source.invariant.starts (subst (λ es. filed_cost k (table_of form es) v i ≡ None) (sym c.in_ok-table.ensures.empty) (row-waits k v i lacks)));
          }
    ]

pub returns-clause-ok : goal.returns-clause-ok
returns-clause-ok g c =
    let form = g.L.LanguageChildren.form in
    let k = costs_by g.F.Cost.Ord.cmp (g.F.CostFunction.node_cost c.args.costs.now) in
    let v = c.args.nodes.now.filed in
    let queue = heap_items c.loop-source.queue in
    let state = table_state c.args.store.now c.args.nodes.now in
    let empty = c.in_ok-table.ensures.empty in
    record {
      making = subst (λ es. IsMaking form g.L.Ord.cmp state v k (table_of form es) queue c.in_ok-lacking.lacking.items) (sym empty)
          (making-starts form g.L.Ord.cmp state v k queue c.in_ok-lacking.lacking.items c.loop-source.source (omega (arith, c.loop-source-test.false, c.class_count-source-end.ensures))
          (subst (λ es. StartsWith form k (table_of form es) v c.loop-source.source queue) empty c.loop-source.invariant.starts) c.in_ok-lacking.ensures.ok);
      heap = c.loop-source.invariant.heap;
      room = c.in_ok-table.ensures.room ∙ c.class_count.ensures;
      filed = subst (λ es. All (IsFiledAs form v) es) (sym empty) (All-nil (IsFiledAs form v));
    }
