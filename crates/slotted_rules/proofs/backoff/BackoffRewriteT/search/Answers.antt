use Rattle.std.proofs.Common.{inr}
use Rattle.slotted_graph.proofs.Saying.{lowers-itself}
use Rattle.slotted_rules.proofs.backoff.BackoffRewriteT.search.Goals as goal

pub returns-then-is_resting-clause-lowers : goal.returns-then-is_resting-clause-lowers
returns-then-is_resting-clause-lowers g c = inr (lowers-itself g.N.Analysis.codes g.N.Analysis.meaning g.met.N.Analysis.is_merge c.args.graph.now)
