-- Turns were taken, and the last one stops the run, or all go on.
use Rattle.std.proofs.Common.{length}
use Rattle.slotted_graph.specs.Analysed.{LowersData}
use Rattle.slotted_rules.specs.Applying.{AreModified}
use Rattle.slotted_rules.specs.RunLoops.{HasTaken, turns_left}
use Rattle.slotted_rules.specs.Seen.{limits_of, parts_of}
use Rattle.slotted_rules.specs.Turning.{Calls, RulesOnce, measures}
use Rattle.slotted_rules.proofs.runner.Runner.take_turns.Given as goal

abbrev pub invariant-loop-self : goal.invariant-loop-self
invariant-loop-self g l = record {
  so_far : HasTaken g.K.Clock.tells (RulesOnce g.Q.RewriteT.searches g.Q.RewriteT.applies (AreModified g.N.Analysis.codes g.N.Analysis.meaning g.N.Analysis.may_ask g.N.Analysis.modifies) l.rules) (Calls g.H.Hook.leaves) (measures g.D.IterationData.made) (limits_of l.fn.self.limits) l.start (parts_of l.fn.self) (parts_of l.self);
  lowers : LowersData g.N.Analysis.codes g.N.Analysis.meaning l.fn.self.egraph l.self.egraph;
}

abbrev pub decreases-loop-self : goal.decreases-loop-self
decreases-loop-self g l = turns_left l.self.stop_reason l.self.limits.iterations (length l.self.iterations.items)
