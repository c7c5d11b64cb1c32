use Rattle.std.proofs.Common.{inr}
use Rattle.slotted_graph.proofs.Saying.{lowers-itself}
use Rattle.slotted_workspace.proofs.running.NodeLimitHookString.call.Goals as goal

pub returns-then-total_number_of_nodes-self-clause-lowers : goal.returns-then-total_number_of_nodes-self-clause-lowers
returns-then-total_number_of_nodes-self-clause-lowers g c = inr (lowers-itself g.N.Analysis.codes g.N.Analysis.meaning g.met.N.Analysis.is_merge c.args.graph.now)

pub returns-in-Ok-clause-lowers : goal.returns-in-Ok-clause-lowers
returns-in-Ok-clause-lowers g c = inr (lowers-itself g.N.Analysis.codes g.N.Analysis.meaning g.met.N.Analysis.is_merge c.args.graph.now)

pub returns-in-Err-clause-lowers : goal.returns-in-Err-clause-lowers
returns-in-Err-clause-lowers g c = inr (lowers-itself g.N.Analysis.codes g.N.Analysis.meaning g.met.N.Analysis.is_merge c.args.graph.now)
