use Rattle.std.proofs.Common.{inr}
use Rattle.std.specs.Prelude.{None}
use Rattle.slotted_graph.proofs.Extending.{extends-united}
use Rattle.slotted_graph.proofs.Saying.{carried-lowers}
use Rattle.slotted_run_lines.proofs.own_rules.UnionRewriteT.apply.Goals as goal

pub returns-clause-extends : goal.returns-clause-extends
returns-clause-extends g c =
    inr (extends-united c.args.graph.now c.union_quietly.new.self c.args.self.now.left c.args.self.now.right None c.in_ok-union_quietly.field-0 c.in_ok-union_quietly.ensures.union c.in_ok-union_quietly.ensures.text c.in_ok-union_quietly.ensures.table)

pub returns-clause-lowers : goal.returns-clause-lowers
returns-clause-lowers g c = inr (carried-lowers g.N.Analysis.codes g.N.Analysis.meaning c.args.graph.now c.union_quietly.new.self c.in_ok-union_quietly.ensures.carries)
