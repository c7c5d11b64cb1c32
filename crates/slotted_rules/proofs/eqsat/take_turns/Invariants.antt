-- So many turns were taken, and all go on.
use Rattle.std.proofs.Common.{◌-◌}
use Rattle.slotted_graph.specs.Analysed.{LowersData}
use Rattle.slotted_rules.specs.Applying.{AreModified}
use Rattle.slotted_rules.specs.Eqsat.{HasCounted}
use Rattle.slotted_rules.specs.Turning.{Calls, RulesOnce}
use Rattle.slotted_rules.proofs.eqsat.take_turns.Given as goal

abbrev pub invariant-loop-reason : goal.invariant-loop-reason
invariant-loop-reason g l = record {
  so_far : HasCounted g.K.Clock.tells (RulesOnce g.Q.RewriteT.searches g.Q.RewriteT.applies (AreModified g.N.Analysis.codes g.N.Analysis.meaning g.N.Analysis.may_ask g.N.Analysis.modifies) l.rules) (Calls g.H.Hook.leaves) l.bounds.iterations l.bounds.seconds l.bounds.start (l.fn.graph, l.fn.hook) l.fn.clock l.counted (l.graph, l.hook) l.clock;
  lowers : LowersData g.N.Analysis.codes g.N.Analysis.meaning l.fn.graph l.graph;
}

abbrev pub decreases-loop-reason : goal.decreases-loop-reason
decreases-loop-reason g l = l.bounds.iterations - l.counted
