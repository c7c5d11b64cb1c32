use Rattle.std.proofs.Common.{inr}
use Rattle.slotted_rules.proofs.Carrying.{carries-itself}
use Rattle.slotted_rules.proofs.uniting.unite.Goals as goal

pub returns-in_err-in_a-clause-carries : goal.returns-in_err-in_a-clause-carries
returns-in_err-in_a-clause-carries g c = inr (carries-itself g.N.Analysis.codes g.N.Analysis.meaning g.met.N.Analysis.is_merge c.args.graph.now)

pub returns-in_err-in_b-clause-carries : goal.returns-in_err-in_b-clause-carries
returns-in_err-in_b-clause-carries g c = inr (carries-itself g.N.Analysis.codes g.N.Analysis.meaning g.met.N.Analysis.is_merge c.args.graph.now)
