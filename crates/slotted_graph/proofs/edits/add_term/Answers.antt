use Rattle.slotted_proofs.specs.Equations.{to_applied}
use Rattle.slotted_graph.proofs.Saying.{adds-term, graph-kept}
use Rattle.slotted_graph.proofs.edits.add_term.Goals as goal

pub returns-clause-ok : goal.returns-clause-ok
returns-clause-ok g c =
    let e = c.in_ok-id.ensures in
    adds-term g.N.Analysis.codes g.N.Analysis.meaning c.args.graph.now c.add_syn_expr_quietly.new.self c.args.term.now (to_applied c.in_ok-id.id)
    (graph-kept c.add_syn_expr_quietly.new.self c.add_syn_expr_quietly.ensures.rests e.fails.0) e.extends e.adds c.add_syn_expr_quietly.ensures.more e.valid e.term e.carries
