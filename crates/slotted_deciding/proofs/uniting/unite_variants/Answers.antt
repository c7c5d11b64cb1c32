use Rattle.std.proofs.Common.{◌∙◌, refl, subst, sym}
use Rattle.slotted_deciding.specs.Equality.{IsDecidedGraph}
use Rattle.slotted_deciding.proofs.Growing.{leads-itself, leads-then}
use Rattle.slotted_deciding.proofs.uniting.unite_variants.Goals as goal

pub loop-i-preserved : goal.loop-i-preserved
loop-i-preserved g c = (
  leads-then g.N.Analysis.codes g.N.Analysis.meaning g.met.N.Analysis.is_merge c.args.graph.now c.loop-i.graph c.unite_within.new.graph c.loop-i.invariant.0 c.in_ok-left.ensures.goes,
  λ decided. c.in_ok-left.ensures.kept (subst IsDecidedGraph (sym (c.loop-i.invariant.1 decided)) decided) ∙ c.loop-i.invariant.1 decided,
)

pub loop-i-init : goal.loop-i-init
loop-i-init g c = (leads-itself g.N.Analysis.codes g.N.Analysis.meaning g.met.N.Analysis.is_merge c.args.graph.now c.requires.graph, λ decided. refl)

pub returns-clause-kept : goal.returns-clause-kept
returns-clause-kept g c decided = c.loop-i.invariant.1 decided

pub returns-clause-goes : goal.returns-clause-goes
returns-clause-goes g c = c.loop-i.invariant.0
