use Rattle.slotted_graph.proofs.Saying.{graph-kept, unites-ids}
use Rattle.slotted_graph.proofs.edits.unite.Goals as goal

pub returns-clause-ok : goal.returns-clause-ok
returns-clause-ok g c =
    let e = c.in_ok-union_quietly.ensures in
    unites-ids g.N.Analysis.codes g.N.Analysis.meaning c.args.graph.now c.union_quietly.new.self c.args.left.now c.args.right.now _
    (graph-kept c.union_quietly.new.self c.union_quietly.ensures.rests e.fails.0) c.requires.left c.requires.right e.union e.text c.union_quietly.ensures.table e.carries
