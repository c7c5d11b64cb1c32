-- The table that is made, at the places of its classes.
use Rattle.std.proofs.Common.{sym, subst}
use Rattle.std.specs.Prelude.{All}
use Rattle.slotted_costs.specs.Costs.{costs_by}
use Rattle.slotted_costs.specs.Entries.{IsFiledAs, table_of}
use Rattle.slotted_costs.specs.Least.{IsLeastTable, comes_first}
use Rattle.slotted_model.specs.Extraction.{Fits, HasTiesBroken}
use Rattle.slotted_hashcons.specs.WellFiled.{state_in}
use Rattle.slotted_operations.proofs.Graphs.AtRest.{at-rest}
use Rattle.slotted_graph.proofs.ChosenNodes.{chosen-entries}
use Rattle.slotted_graph.proofs.LeastTables.{table-differs, table-least, table-ordered, table-within}
use Rattle.slotted_graph.proofs.terms.least_terms.Goals as goal

pub place-requires-clause-within : goal.place-requires-clause-within
place-requires-clause-within g c =
    let form = g.L.LanguageChildren.form in
    let k = costs_by g.F.Cost.Ord.cmp (g.F.CostFunction.node_cost c.args.costs.now) in
    let same = c.into_entries.ensures in
    let state = state_in c.args.store.now c.args.nodes.now in
    table-within form c.args.store.now c.args.nodes.now c.requires.rests.filed k c.into_entries.result.items
    (subst (λ es. IsLeastTable state k (table_of form es)) (sym same) c.in_ok-table.ensures.ok) (subst (All (IsFiledAs form c.args.nodes.now.filed)) (sym same) c.in_ok-table.ensures.filed) c.class_count.result c.class_count.ensures

pub place-requires-clause-differ : goal.place-requires-clause-differ
place-requires-clause-differ g c =
    let form = g.L.LanguageChildren.form in
    let k = costs_by g.F.Cost.Ord.cmp (g.F.CostFunction.node_cost c.args.costs.now) in
    let same = c.into_entries.ensures in
    let state = state_in c.args.store.now c.args.nodes.now in
    table-differs form c.args.store.now c.args.nodes.now c.requires.rests.filed k c.into_entries.result.items
    (subst (λ es. IsLeastTable state k (table_of form es)) (sym same) c.in_ok-table.ensures.ok) (subst (All (IsFiledAs form c.args.nodes.now.filed)) (sym same) c.in_ok-table.ensures.filed)

pub invariant_of-result : goal.invariant_of-result
invariant_of-result g c =
    let form = g.L.LanguageChildren.form in
    let k = costs_by g.F.Cost.Ord.cmp (g.F.CostFunction.node_cost c.args.costs.now) in
    let same = c.into_entries.ensures in
    let state = state_in c.args.store.now c.args.nodes.now in
    record {
      ordered = table-ordered form c.args.store.now c.args.nodes.now c.requires.rests.filed k c.into_entries.result.items
          (subst (λ es. IsLeastTable state k (table_of form es)) (sym same) c.in_ok-table.ensures.ok) (subst (All (IsFiledAs form c.args.nodes.now.filed)) (sym same) c.in_ok-table.ensures.filed)
          c.in_ok-entries.entries.items c.in_ok-entries.ensures.ok;
    }

pub returns-clause-ok : goal.returns-clause-ok
returns-clause-ok g c =
    let form = g.L.LanguageChildren.form in
    let k = costs_by g.F.Cost.Ord.cmp (g.F.CostFunction.node_cost c.args.costs.now) in
    let same = c.into_entries.ensures in
    let state = state_in c.args.store.now c.args.nodes.now in
    let rest = at-rest c.args.store.now c.args.nodes.now c.requires.good c.requires.rests in
    table-least form c.args.store.now c.args.nodes.now c.requires.rests.filed k c.into_entries.result.items
    (subst (λ es. IsLeastTable state k (table_of form es)) (sym same) c.in_ok-table.ensures.ok) (subst (All (IsFiledAs form c.args.nodes.now.filed)) (sym same) c.in_ok-table.ensures.filed)
    c.in_ok-entries.entries.items c.in_ok-entries.ensures.ok (subst (λ es. Fits g.row.F-Cost.Denot state k (table_of form es)) (sym same) (c.in_ok-table.ensures.fits rest))

pub returns-clause-chosen : goal.returns-clause-chosen
returns-clause-chosen g c =
    let form = g.L.LanguageChildren.form in
    let k = costs_by g.F.Cost.Ord.cmp (g.F.CostFunction.node_cost c.args.costs.now) in
    let same = c.into_entries.ensures in
    let state = state_in c.args.store.now c.args.nodes.now in
    let rows = c.args.nodes.now.filed in
    chosen-entries form g.L.Ord.cmp g.met.L.LanguageChildren.fits c.args.store.now c.args.nodes.now c.requires.rests.filed k c.into_entries.result.items
    (subst (λ es. IsLeastTable state k (table_of form es)) (sym same) c.in_ok-table.ensures.ok) (subst (All (IsFiledAs form rows)) (sym same) c.in_ok-table.ensures.filed)
    (subst (λ es. HasTiesBroken state k (comes_first form g.L.Ord.cmp rows) (table_of form es)) (sym same) c.in_ok-table.ensures.ties) c.in_ok-entries.entries.items c.in_ok-entries.ensures.ok
