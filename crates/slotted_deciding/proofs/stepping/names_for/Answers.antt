use Rattle.slotted_deciding.proofs.Growing.{leads-then}
use Rattle.slotted_deciding.proofs.stepping.names_for.Goals as goal

pub returns-clause-goes : goal.returns-clause-goes
returns-clause-goes g c = leads-then g.N.Analysis.codes g.N.Analysis.meaning g.met.N.Analysis.is_merge c.args.graph.now c.add_fresh.new.graph c.add_fresh-2.new.graph c.in_ok-add_fresh.ensures.goes c.in_ok-add_fresh-2.ensures.goes
