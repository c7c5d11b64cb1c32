-- What is added extends the graph.
use Rattle.std.proofs.Common.{inr}
use Rattle.slotted_graph.proofs.Extending.{extends-added}
use Rattle.slotted_graph.proofs.Saying.{carried-lowers, lowers-itself}
use Rattle.slotted_run_lines.proofs.counting.CountingRewriteTSmall.apply.Goals as goal

pub returns-clause-ok : goal.returns-clause-ok
returns-clause-ok g c = extends-added c.args.graph.now c.add_quietly.new.self c.in_ok-add_quietly.ensures.extends c.in_ok-add_quietly.ensures.adds c.add_quietly.ensures.more

pub returns-clause-extends : goal.returns-clause-extends
returns-clause-extends g c = inr (extends-added c.args.graph.now c.add_quietly.new.self c.in_ok-add_quietly.ensures.extends c.in_ok-add_quietly.ensures.adds c.add_quietly.ensures.more)

pub returns-clause-lowers : goal.returns-clause-lowers
returns-clause-lowers g c = inr (carried-lowers g.N.Analysis.codes g.N.Analysis.meaning c.args.graph.now c.add_quietly.new.self c.in_ok-add_quietly.ensures.carries)

pub returns-then-count-self-clause-lowers : goal.returns-then-count-self-clause-lowers
returns-then-count-self-clause-lowers g c = inr (lowers-itself g.N.Analysis.codes g.N.Analysis.meaning g.met.N.Analysis.is_merge c.args.graph.now)
