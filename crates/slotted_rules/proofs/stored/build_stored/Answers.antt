use Rattle.std.proofs.Common.{inr}
use Rattle.slotted_rules.proofs.Carrying.{carries-itself}
use Rattle.slotted_rules.proofs.stored.build_stored.Goals as goal

pub returns-in_err-inside-clause-carries : goal.returns-in_err-inside-clause-carries
returns-in_err-inside-clause-carries g c = inr (carries-itself g.N.Analysis.codes g.N.Analysis.meaning g.met.N.Analysis.is_merge c.args.graph.now)
