-- Nothing but slots is made.
use Rattle.std.proofs.Common.{inr}
use Rattle.slotted_rules.proofs.Carrying.{carries-itself, carries-takes}
use Rattle.slotted_rules.proofs.Answering.{err-then}
use Rattle.slotted_rules.proofs.Growing.{builds-itself, builds-takes}
use Rattle.slotted_rules.proofs.substitution.frame_for.Goals as goal

pub returns-in_err-id-clause-err : goal.returns-in_err-id-clause-err
returns-in_err-id-clause-err g c = err-then c.from_residual.result (inr (builds-itself c.args.graph.now c.requires.graph))

pub returns-in_err-node-clause-err : goal.returns-in_err-node-clause-err
returns-in_err-node-clause-err g c =
    err-then c.from_residual-in_err-node.result (inr (builds-takes c.args.graph.now c.fresh_node.new.self c.requires.graph c.fresh_node.ensures.takes))

pub returns-in_err-id-clause-carries : goal.returns-in_err-id-clause-carries
returns-in_err-id-clause-carries g c = inr (carries-itself g.N.Analysis.codes g.N.Analysis.meaning g.met.N.Analysis.is_merge c.args.graph.now)

pub returns-in_err-node-clause-carries : goal.returns-in_err-node-clause-carries
returns-in_err-node-clause-carries g c = inr (carries-takes g.N.Analysis.codes g.N.Analysis.meaning g.met.N.Analysis.is_merge c.args.graph.now c.fresh_node.new.self c.fresh_node.ensures.takes)

pub returns-clause-carries : goal.returns-clause-carries
returns-clause-carries g c = inr (carries-takes g.N.Analysis.codes g.N.Analysis.meaning g.met.N.Analysis.is_merge c.args.graph.now c.fresh_node.new.self c.fresh_node.ensures.takes)
