use Rattle.slotted_deciding.proofs.Growing.{leads-itself}
use Rattle.slotted_deciding.proofs.stepping.proof_of.Goals as goal

pub returns-then-forwards-clause-goes : goal.returns-then-forwards-clause-goes
returns-then-forwards-clause-goes g c = leads-itself g.N.Analysis.codes g.N.Analysis.meaning g.met.N.Analysis.is_merge c.args.graph.now c.requires.graph
