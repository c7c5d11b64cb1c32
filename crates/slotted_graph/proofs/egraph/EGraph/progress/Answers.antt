use Rattle.std.proofs.Common.{inr}
use Rattle.slotted_graph.proofs.Measured.{progress-is}
use Rattle.slotted_graph.proofs.Insides.{inside-of}
use Rattle.slotted_graph.proofs.egraph.EGraph.progress.Goals as goal

pub returns-clause-measure : goal.returns-clause-measure
returns-clause-measure l c =
    let k = c.self.inside.store in
    let inside = inside-of c.self.inside.table k c.self.inside.nodes c.self.view_is c.if-self.false c.self.invariant in
    let e = c.progress.ensures in
    inr (progress-is k inside.good c.args.self.now.image inside.image c.progress.result e.classes e.live e.slots e.symmetries)
