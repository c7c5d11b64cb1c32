use Rattle.slotted_graph.proofs.StatesLater.{graph-takes}
use Rattle.slotted_deciding.proofs.Growing.{leads-takes, leads-then, on_ok_by}
use Rattle.slotted_deciding.proofs.uniting.prove_variant.Goals as goal

pub parts_of-requires : goal.parts_of-requires
parts_of-requires g c = record { graph = graph-takes c.args.graph.now c.fresh_node.new.self c.requires.graph c.fresh_node.ensures.takes }

pub returns-clause-goes : goal.returns-clause-goes
returns-clause-goes g c =
    let start = c.args.graph.now in
    let node = leads-takes g.N.Analysis.codes g.N.Analysis.meaning g.met.N.Analysis.is_merge start c.fresh_node.new.self c.requires.graph c.fresh_node.ensures.takes in
    let parts = leads-then g.N.Analysis.codes g.N.Analysis.meaning g.met.N.Analysis.is_merge start c.fresh_node.new.self c.parts_of.new.graph node c.in_ok-parts.ensures.goes in
    on_ok_by c.checked.result (leads-then g.N.Analysis.codes g.N.Analysis.meaning g.met.N.Analysis.is_merge start c.parts_of.new.graph c.checked.new.graph parts) c.checked.ensures.goes
