use Rattle.slotted_deciding.proofs.Checked.{leads-checked}
use Rattle.slotted_deciding.proofs.stepping.checked.Goals as goal

pub returns-clause-goes : goal.returns-clause-goes
returns-clause-goes g c =
    leads-checked g.N.Analysis.codes g.N.Analysis.meaning g.met.N.Analysis.is_merge c.args.graph.now c.check.new.graph c.args.equation.now (g.S.Check.step c.args.step.now) c.in_ok-proof.proof c.requires.graph
    c.in_ok-proof.ensures.fits c.in_ok-proof.ensures.accepted c.check.ensures.rests
