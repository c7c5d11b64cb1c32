use Rattle.std.proofs.Common.{ap, refl, sym}
use Rattle.slotted_model_analyses.specs.Analysis.{IsMerge}
use Rattle.slotted_data.specs.Meaning.{by_bare_nodes}
use Rattle.slotted_data.proofs.Merging.{merge-decided}
use Rattle.slotted_operations.specs.Graph.{Graph}
use Rattle.slotted_operations.proofs.Graphs.Reports.{within}
use Rattle.slotted_graph.proofs.Analysed.{merges-data}
use Rattle.slotted_graph.proofs.Insides.{data-inside, given, inside-of}
use Rattle.slotted_graph.proofs.egraph.EGraph.merge_data_quietly.Goals as goal

pub returns-clause-merges : goal.returns-clause-merges
returns-clause-merges g c =
    let k = c.self.inside.store in
    let r = c.self.inside.nodes in
    let n = c.self.inside.analysis in
    let i = c.args.id.0 in
    let inside = inside-of c.self.inside.table k r c.self.view_is c.if-self.false c.self.invariant in
    let law : IsMerge g.row.N-Data.Denot (by_bare_nodes (g.N.Analysis.meaning n)) = merge-decided (g.N.Analysis.meaning n) g.N.Data.PartialEq.eq g.met.N.Data.Eq.laws g.met.N.Analysis.equal_is_same (g.met.N.Analysis.is_merge n) in
    merges-data g.N.Analysis.codes g.N.Analysis.meaning n c.self.inside.rounds law k r c.self.inside.data c.merge_value.new.data c.args.self.now _ inside.image refl (sym (ap (λ (x : Graph). x.part) c.self.view_is)) refl inside.filed
    (data-inside g.N.Analysis.meaning n c.if-self.false c.self.invariant) i (within k c.args.self.now.image inside.image i (given inside.failed c.requires)) c.args.value.now c.in_ok-merge_value.ensures.merges
