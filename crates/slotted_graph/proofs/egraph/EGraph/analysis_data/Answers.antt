use Rattle.std.proofs.Common.{◌≡◌, ap, subst, sym, ◌∙◌}
use Rattle.std.specs.Prelude.{Some, slice_get}
use Rattle.slotted_operations.specs.Graph.{Graph}
use Rattle.slotted_operations.proofs.Graphs.Reports.{within}
use Rattle.slotted_graph.proofs.Analysed.{absorbs-made, has-data}
use Rattle.slotted_graph.proofs.Insides.{data-inside, inside-of}
use Rattle.slotted_graph.proofs.egraph.EGraph.analysis_data.Goals as goal

pub returns-clause-value : goal.returns-clause-value
returns-clause-value g c =
    let k = c.self.inside.store in
    let image = ap (λ (x : Graph). x.image) c.self.view_is in
    has-data g.N.Analysis.codes g.N.Analysis.meaning c.self.inside.analysis c.self.inside.rounds k c.self.inside.nodes c.self.inside.data c.args.self.now image (sym (ap (λ (x : Graph). x.part) c.self.view_is))
    c.args.id.0 (within k c.args.self.now.image image c.args.id.0 c.requires.1) c.value.result.now (subst (λ j. slice_get c.self.inside.data.values j ≡ Some c.value.result.now) c.find_class.ensures.class c.value.ensures)

pub returns-clause-rests : goal.returns-clause-rests
returns-clause-rests g c =
    let k = c.self.inside.store in
    let sound = ap (λ (x : Graph). x.failed) c.self.view_is ∙ c.requires.0 in
    let inside = inside-of c.self.inside.table k c.self.inside.nodes c.self.view_is sound c.self.invariant in
    absorbs-made g.N.Analysis.codes g.N.Analysis.meaning c.self.inside.analysis c.self.inside.rounds k c.self.inside.nodes c.self.inside.data c.args.self.now inside.image (sym (ap (λ (x : Graph). x.part) c.self.view_is))
    (data-inside g.N.Analysis.meaning c.self.inside.analysis sound c.self.invariant) inside.filed
