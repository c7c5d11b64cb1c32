use Rattle.std.proofs.Common.{ap, refl, sym}
use Rattle.slotted_data.specs.Part.{part_in}
use Rattle.slotted_operations.specs.Graph.{Graph}
use Rattle.slotted_graph.proofs.egraph.EGraph.modify_rounds.Goals as goal

pub returns : goal.returns
returns g c = record { part = part_in c.self.inside.analysis c.self.inside.rounds c.self.inside.data; keeps = sym (ap (λ (x : Graph). x.part) c.self.view_is); is = refl }
