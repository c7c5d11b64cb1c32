use Rattle.std.proofs.Common.{◌∙◌, ap, sym, inr}
use Rattle.slotted_operations.specs.Graph.{Graph, totals_of}
use Rattle.slotted_graph.proofs.CountedGraphs.{low-data, tells-totals}
use Rattle.slotted_graph.proofs.Insides.{data-inside, inside-of}
use Rattle.slotted_graph.proofs.egraph.EGraph.rebuild_totals.Goals as goal

pub returns-clause-totals : goal.returns-clause-totals
returns-clause-totals g c =
    let k = c.self.inside.store in
    let n = c.self.inside.analysis in
    let inside = inside-of c.self.inside.table k c.self.inside.nodes c.self.view_is c.if-self.false c.self.invariant in
    inr (tells-totals g.N.Analysis.codes g.N.Analysis.meaning n c.self.inside.rounds k c.self.inside.nodes c.self.inside.data c.args.self.now inside.good inside.image
    (sym (ap (λ (x : Graph). x.part) c.self.view_is)) c.rebuild_totals-2.result inside.rests (data-inside g.N.Analysis.meaning n c.if-self.false c.self.invariant) c.rebuild_totals-2.ensures.totals)

pub returns-clause-still : goal.returns-clause-still
returns-clause-still g c none =
    let held = data-inside g.N.Analysis.meaning c.self.inside.analysis c.if-self.false c.self.invariant in
    c.rebuild_totals-2.ensures.still (held.still (low-data g.N.Analysis.meaning c.self.inside.analysis c.self.inside.store c.self.inside.nodes c.self.inside.data none held))
    ∙ ap totals_of c.self.view_is
