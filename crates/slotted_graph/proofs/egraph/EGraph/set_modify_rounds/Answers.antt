use Rattle.std.proofs.Common.{ap, sym}
use Rattle.slotted_data.specs.Part.{part_code, part_in}
use Rattle.slotted_operations.specs.Graph.{Graph}
use Rattle.slotted_graph.proofs.egraph.EGraph.set_modify_rounds.Goals as goal

pub returns : goal.returns
returns g c =
    let p = part_in c.self.inside.analysis c.self.inside.rounds c.self.inside.data in
    record {
      part = p;
      keeps = sym (ap (λ (x : Graph). x.part) c.self.view_is);
      set = ap (λ (x : Graph). record x { part = (part_code g.N.Analysis.codes).code (record p { rounds = c.args.rounds }) }) c.self.view_is;
    }
