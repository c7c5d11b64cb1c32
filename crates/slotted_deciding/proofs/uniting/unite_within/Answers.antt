use Rattle.slotted_deciding.proofs.Growing.{leads-itself}
use Rattle.slotted_deciding.proofs.uniting.unite_within.Goals as goal

pub returns-then-limit-eq0-clause-goes : goal.returns-then-limit-eq0-clause-goes
returns-then-limit-eq0-clause-goes g c = leads-itself g.N.Analysis.codes g.N.Analysis.meaning g.met.N.Analysis.is_merge c.args.graph.now c.requires.graph

pub returns-then-not-branch-clause-goes : goal.returns-then-not-branch-clause-goes
returns-then-not-branch-clause-goes g c = leads-itself g.N.Analysis.codes g.N.Analysis.meaning g.met.N.Analysis.is_merge c.args.graph.now c.requires.graph
