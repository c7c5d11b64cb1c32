use Rattle.slotted_deciding.proofs.Growing.{leads-itself, leads-then}
use Rattle.slotted_deciding.proofs.uniting.parts_of.Goals as goal

pub loop-k-preserved : goal.loop-k-preserved
loop-k-preserved g c = leads-then g.N.Analysis.codes g.N.Analysis.meaning g.met.N.Analysis.is_merge c.args.graph.now c.loop-k.graph c.part_of.new.graph c.loop-k.invariant c.in_ok-part_of.ensures.goes

pub loop-k-init : goal.loop-k-init
loop-k-init g c = leads-itself g.N.Analysis.codes g.N.Analysis.meaning g.met.N.Analysis.is_merge c.args.graph.now c.requires.graph
