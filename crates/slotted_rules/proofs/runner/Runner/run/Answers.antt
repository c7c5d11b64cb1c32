-- What is refused fails the graph where memory or slots were lacking.
use Rattle.std.proofs.Common.{◌⊎◌, inr}
use Rattle.std.specs.Prelude.{IsTrue}
use Rattle.slotted_rules.specs.Applying.{AreModified, RefusesRules}
use Rattle.slotted_rules.specs.Runs.{IsRefused}
use Rattle.slotted_rules.specs.Seen.{parts_of}
use Rattle.slotted_rules.specs.Turning.{Calls, RulesOnce, measures, RefusesTurn}
use Rattle.slotted_rules.proofs.LeftGraphs.{left-so}
use Rattle.slotted_graph.specs.Analysed.{LowersData}
use Rattle.slotted_rules.proofs.RefusedRuns.{if-err-so, refused-out, spoiled}
use Rattle.slotted_rules.proofs.runner.Runner.run.Goals as goal

pub returns-clause-refused : goal.returns-clause-refused
returns-clause-refused g c =
    if-err-so c.answer-outcome.result c.fail_if_short.result
    (IsRefused g.K.Clock.tells (RulesOnce g.Q.RewriteT.searches g.Q.RewriteT.applies (AreModified g.N.Analysis.codes g.N.Analysis.meaning g.N.Analysis.may_ask g.N.Analysis.modifies) c.args.rules.now) (Calls g.H.Hook.leaves) (measures g.D.IterationData.made) (RefusesTurn (RefusesRules g.Q.RewriteT.searches g.Q.RewriteT.gives_up g.Q.RewriteT.applies g.Q.RewriteT.breaks_off c.args.rules.now) (RulesOnce g.Q.RewriteT.searches g.Q.RewriteT.applies (AreModified g.N.Analysis.codes g.N.Analysis.meaning g.N.Analysis.may_ask g.N.Analysis.modifies) c.args.rules.now) g.H.Hook.gives_up (Calls g.H.Hook.leaves) g.D.IterationData.refuses) (parts_of c.args.self.now) (record (parts_of c.answer-outcome.new.self) { graph = c.fail_if_short.new.graph }))
    (λ e. IsTrue c.args.self.now.egraph.failed ⊎ IsRefused g.K.Clock.tells (RulesOnce g.Q.RewriteT.searches g.Q.RewriteT.applies (AreModified g.N.Analysis.codes g.N.Analysis.meaning g.N.Analysis.may_ask g.N.Analysis.modifies) c.args.rules.now) (Calls g.H.Hook.leaves) (measures g.D.IterationData.made) (RefusesTurn (RefusesRules g.Q.RewriteT.searches g.Q.RewriteT.gives_up g.Q.RewriteT.applies g.Q.RewriteT.breaks_off c.args.rules.now) (RulesOnce g.Q.RewriteT.searches g.Q.RewriteT.applies (AreModified g.N.Analysis.codes g.N.Analysis.meaning g.N.Analysis.may_ask g.N.Analysis.modifies) c.args.rules.now) g.H.Hook.gives_up (Calls g.H.Hook.leaves) g.D.IterationData.refuses) (parts_of c.args.self.now) (record (parts_of c.answer-outcome.new.self) { graph = c.fail_if_short.new.graph }) e)
    c.fail_if_short.ensures.same (λ e r. inr r)
    (refused-out g.K.Clock.tells (RulesOnce g.Q.RewriteT.searches g.Q.RewriteT.applies (AreModified g.N.Analysis.codes g.N.Analysis.meaning g.N.Analysis.may_ask g.N.Analysis.modifies) c.args.rules.now) (Calls g.H.Hook.leaves) (measures g.D.IterationData.made) (RefusesTurn (RefusesRules g.Q.RewriteT.searches g.Q.RewriteT.gives_up g.Q.RewriteT.applies g.Q.RewriteT.breaks_off c.args.rules.now) (RulesOnce g.Q.RewriteT.searches g.Q.RewriteT.applies (AreModified g.N.Analysis.codes g.N.Analysis.meaning g.N.Analysis.may_ask g.N.Analysis.modifies) c.args.rules.now) g.H.Hook.gives_up (Calls g.H.Hook.leaves) g.D.IterationData.refuses) (spoiled (RefusesRules g.Q.RewriteT.searches g.Q.RewriteT.gives_up g.Q.RewriteT.applies g.Q.RewriteT.breaks_off c.args.rules.now) (RulesOnce g.Q.RewriteT.searches g.Q.RewriteT.applies (AreModified g.N.Analysis.codes g.N.Analysis.meaning g.N.Analysis.may_ask g.N.Analysis.modifies) c.args.rules.now) g.H.Hook.gives_up (Calls g.H.Hook.leaves) g.D.IterationData.refuses) c.answer-outcome.result (parts_of c.args.self.now) (parts_of c.answer-outcome.new.self) c.fail_if_short.new.graph
    (c.fail_if_short.ensures.short, c.fail_if_short.ensures.other) c.answer-outcome.ensures.refused)

pub returns-clause-lowers : goal.returns-clause-lowers
returns-clause-lowers g c = left-so (LowersData g.N.Analysis.codes g.N.Analysis.meaning c.args.self.now.egraph) c.answer-outcome.new.self.egraph c.fail_if_short.new.graph c.answer-outcome.result c.answer-outcome.ensures.lowers c.fail_if_short.ensures.short c.fail_if_short.ensures.other
