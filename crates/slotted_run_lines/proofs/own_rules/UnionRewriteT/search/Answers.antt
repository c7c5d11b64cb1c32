use Rattle.std.proofs.Common.{inr}
use Rattle.slotted_graph.proofs.Saying.{lowers-itself}
use Rattle.slotted_run_lines.proofs.own_rules.UnionRewriteT.search.Goals as goal

pub returns-clause-lowers : goal.returns-clause-lowers
returns-clause-lowers g c = inr (lowers-itself g.N.Analysis.codes g.N.Analysis.meaning g.met.N.Analysis.is_merge c.args.graph.now)
