use Rattle.std.proofs.Common.{inr}
use Rattle.slotted_rules.proofs.Answering.{err-then}
use Rattle.slotted_rules.proofs.Carrying.{carries-itself}
use Rattle.slotted_rules.proofs.Growing.{grows-itself}
use Rattle.slotted_rules.proofs.building.build.Goals as goal

pub returns-in_err-inside-clause-err : goal.returns-in_err-inside-clause-err
returns-in_err-inside-clause-err g c = err-then c.from_residual.result (inr (grows-itself c.args.graph.now c.requires.graph))

pub returns-in_err-inside-clause-carries : goal.returns-in_err-inside-clause-carries
returns-in_err-inside-clause-carries g c = inr (carries-itself g.N.Analysis.codes g.N.Analysis.meaning g.met.N.Analysis.is_merge c.args.graph.now)
