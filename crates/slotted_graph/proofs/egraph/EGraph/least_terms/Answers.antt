use Rattle.std.proofs.Common.{subst}
use Rattle.std.proofs.lemmas.Result.{IfOk-weaker}
use Rattle.slotted_costs.specs.Costs.{costs_by}
use Rattle.slotted_data.specs.Part.{part_by}
use Rattle.slotted_operations.specs.Good.{graph_of}
use Rattle.slotted_operations.specs.Graph.{Graph}
use Rattle.slotted_model.specs.Find.{find_class}
use Rattle.slotted_classes.specs.Kept.{entries_of}
use Rattle.slotted_hashcons.specs.FiledRows.{rows_in}
use Rattle.slotted_graph.specs.Chosen.{AreChosen}
use Rattle.slotted_graph.specs.Least.{AreLeast}
use Rattle.slotted_graph.specs.LeastTerms.{AreChosenOf, HasEachLiveClass}
use Rattle.slotted_graph.proofs.MadeOfEntries.{seen-chosen, seen-each}
use Rattle.slotted_graph.proofs.Insides.{inside-of}
use Rattle.slotted_graph.proofs.egraph.EGraph.least_terms.Goals as goal

pub returns-clause-each : goal.returns-clause-each
returns-clause-each l c =
    let form = l.L.LanguageChildren.form in
    let k = c.self.inside.store in
    let r = c.self.inside.nodes in
    let inside = inside-of c.self.inside.table k r c.self.view_is c.if-self.false c.self.invariant in
    let costs = costs_by l.F.Cost.Ord.cmp (l.F.CostFunction.node_cost c.args.costs.now) in
    IfOk-weaker c.least_terms.result (λ t. AreLeast form k r costs t.entries.items) (λ t. HasEachLiveClass c.args.self.now t.entries.items)
    (λ t least. subst (λ (h : Graph). HasEachLiveClass h t.entries.items) c.self.view_is (seen-each form k r inside.good inside.rests costs t.entries.items least (graph_of c.self.inside.failed c.self.inside.table k (rows_in r.filed) (part_by l.N.Analysis.codes c.self.inside.analysis c.self.inside.rounds c.self.inside.data)))) c.least_terms.ensures.ok

pub returns-clause-chosen : goal.returns-clause-chosen
returns-clause-chosen l c =
    let form = l.L.LanguageChildren.form in
    let order = l.L.Ord.cmp in
    let k = c.self.inside.store in
    let r = c.self.inside.nodes in
    let inside = inside-of c.self.inside.table k r c.self.view_is c.if-self.false c.self.invariant in
    let costs = costs_by l.F.Cost.Ord.cmp (l.F.CostFunction.node_cost c.args.costs.now) in
    IfOk-weaker c.least_terms.result (λ t. AreChosen form order costs (find_class (entries_of k)) (rows_in r.filed) t.entries.items) (λ t. AreChosenOf form order c.args.self.now costs t.entries.items)
    (λ t chosen. subst (λ (h : Graph). AreChosenOf form order h costs t.entries.items) c.self.view_is (seen-chosen form order k r inside.good inside.rests costs t.entries.items chosen (graph_of c.self.inside.failed c.self.inside.table k (rows_in r.filed) (part_by l.N.Analysis.codes c.self.inside.analysis c.self.inside.rounds c.self.inside.data)))) c.least_terms.ensures.chosen
