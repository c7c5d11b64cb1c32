use Rattle.std.proofs.Common.{ap, inr, sym}
use Rattle.slotted_operations.specs.Graph.{Graph}
use Rattle.slotted_graph.proofs.Analysed.{counts-pending}
use Rattle.slotted_graph.proofs.Insides.{inside-of}
use Rattle.slotted_graph.proofs.egraph.EGraph.pending_classes.Goals as goal

pub returns : goal.returns
returns g c =
    let k = c.self.inside.store in
    let inside = inside-of c.self.inside.table k c.self.inside.nodes c.self.view_is c.if-self.false c.self.invariant in
    inr (counts-pending g.N.Analysis.codes c.self.inside.analysis c.self.inside.rounds k inside.good c.self.inside.data c.args.self.now inside.image (sym (ap (λ (x : Graph). x.part) c.self.view_is)) c.pending_count.result c.pending_count.ensures)
