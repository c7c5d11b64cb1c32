use Rattle.std.proofs.Common.{◌∙◌, ap}
use Rattle.slotted_operations.specs.Graph.{Graph}
use Rattle.slotted_operations.specs.Reports.{live_classes}
use Rattle.slotted_operations.proofs.Graphs.Reports.{live_ids-are}
use Rattle.slotted_graph.proofs.Insides.{inside-of}
use Rattle.slotted_graph.proofs.egraph.EGraph.ids.Goals as goal

pub returns-clause-ok : goal.returns-clause-ok
returns-clause-ok l c =
    let inside = inside-of c.self.inside.table c.self.inside.store c.self.inside.nodes c.self.view_is c.if-self.false c.self.invariant in
    let core = c.self.inside.store in
    c.in_ok-ids.ensures.ok ∙ (live_ids-are core inside.good ∙ ap (λ (x : Graph). live_classes x.image) c.self.view_is)
