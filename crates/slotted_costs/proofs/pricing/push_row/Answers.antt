use Rattle.std.proofs.Common.{◌≡◌, ◌∷◌, None, ap, sym, subst, inl, inr}
use Rattle.std.specs.Prelude.{IfNone, IfSome}
use Rattle.std.specs.BinaryHeap.{heap_items}
use Rattle.std.specs.List.Sorted.{IsPermutation}
use Rattle.slotted_costs.specs.Costs.{costs_by}
use Rattle.slotted_costs.specs.Entries.{table_of}
use Rattle.slotted_costs.specs.Prices.{IsCandidateFor, filed_cost}
use Rattle.slotted_costs.proofs.pricing.push_row.Goals as goal
use Rattle.slotted_costs.proofs.pricing.push_row.Goals.{in-Some+in_ok-push, in_default}

pub returns-clause-ok : goal.returns-clause-ok
returns-clause-ok g c =
    let form = g.L.LanguageChildren.form in
    let k = costs_by g.F.Cost.Ord.cmp (g.F.CostFunction.node_cost c.args.costs.now) in
    let table = table_of form c.args.table.now.entries.items in
    let v = c.args.nodes.now.filed in
    elim c.match-branch-2.branch [
      | in-Some+in_ok-push w ↦ inr (record {
        next = w.in-Some.next;
        is = subst (λ o. IfSome o (IsCandidateFor form k table v c.args.source)) w.in-Some.is c.in_ok-next.ensures.some;
        queue = subst (λ q. IsPermutation (w.in-Some.next ∷ heap_items c.args.queue.now) (heap_items q)) (sym w.queue-is) w.in_ok-push.ensures.permutation;
      })
      | in_default w ↦ inl (subst (λ o. IfNone o (filed_cost k table v c.args.source ≡ None)) w.in_default.is c.in_ok-next.ensures.none, ap heap_items w.queue-is)
    ]
