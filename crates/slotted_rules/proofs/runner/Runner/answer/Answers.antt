-- The report of the runner that has stopped.
use Rattle.std.proofs.lemmas.Result.{IfOk-weaker}
use Rattle.slotted_rules.specs.Applying.{AreModified}
use Rattle.slotted_rules.specs.RunLoops.{IsReportOf}
use Rattle.slotted_rules.specs.Runs.{HasReported}
use Rattle.slotted_rules.specs.Seen.{parts_of}
use Rattle.slotted_rules.specs.Turning.{Calls, RulesOnce, measures}
use Rattle.slotted_rules.proofs.RefusedRuns.{reported}
use Rattle.slotted_rules.proofs.runner.Runner.answer.Goals as goal

pub returns-clause-ok : goal.returns-clause-ok
returns-clause-ok g c =
    IfOk-weaker c.report.result (IsReportOf g.T.Clone.is_clone (measures g.D.IterationData.made) (parts_of c.stop.new.self))
    (HasReported g.K.Clock.tells (RulesOnce g.Q.RewriteT.searches g.Q.RewriteT.applies (AreModified g.N.Analysis.codes g.N.Analysis.meaning g.N.Analysis.may_ask g.N.Analysis.modifies) c.args.rules.now) (Calls g.H.Hook.leaves) (measures g.D.IterationData.made) g.T.Clone.is_clone (parts_of c.args.self.now) (parts_of c.stop.new.self))
    (λ r is. reported g.K.Clock.tells (RulesOnce g.Q.RewriteT.searches g.Q.RewriteT.applies (AreModified g.N.Analysis.codes g.N.Analysis.meaning g.N.Analysis.may_ask g.N.Analysis.modifies) c.args.rules.now) (Calls g.H.Hook.leaves) (measures g.D.IterationData.made) g.T.Clone.is_clone (parts_of c.args.self.now) (parts_of c.stop.new.self) c.in_ok-stop.ensures.ok r is)
    c.report.ensures.ok
