-- The runner had stopped, or it begins and takes turns.
use Rattle.std.proofs.Common.{◌∙◌, ap, sym, inr, subst}
use Rattle.std.specs.Prelude.{◌⊎◌, IsTrue, option_map}
use Rattle.slotted_operations.specs.Graph.{Graph}
use Rattle.slotted_graph.specs.Analysed.{LowersData}
use Rattle.slotted_rules.specs.Applying.{AreModified, RefusesRules}
use Rattle.slotted_rules.specs.Seen.{parts_of, stop_of}
use Rattle.slotted_rules.specs.Turning.{Calls, RulesOnce, measures, RefusesTurn}
use Rattle.slotted_graph.proofs.Saying.{lowers-itself}
use Rattle.slotted_rules.proofs.Stopped.{refused-now, stopped-before, stopped-now}
use Rattle.slotted_rules.proofs.Storing.{err-so, none-if, on-ok-two, some-of}
use Rattle.slotted_rules.proofs.runner.Runner.stop.Goals as goal

pub returns-then-is_some-clause-ok : goal.returns-then-is_some-clause-ok
returns-then-is_some-clause-ok g c =
    let had = some-of c.args.self.now.stop_reason (sym c.is_some.ensures ∙ c.if-is_some.true) in
    stopped-before g.K.Clock.tells (RulesOnce g.Q.RewriteT.searches g.Q.RewriteT.applies (AreModified g.N.Analysis.codes g.N.Analysis.meaning g.N.Analysis.may_ask g.N.Analysis.modifies) c.args.rules.now) (Calls g.H.Hook.leaves) (measures g.D.IterationData.made)
    (parts_of c.args.self.now) (stop_of had.0) (ap (option_map stop_of) had.1) c.requires.well

pub returns-clause-ok : goal.returns-clause-ok
returns-clause-ok g c =
    on-ok-two c.take_turns.result c.take_turns.ensures.ok c.take_turns.ensures.stopped
    (λ taken some.
    let has = some-of c.take_turns.new.self.stop_reason some in
    stopped-now g.K.Clock.tells (RulesOnce g.Q.RewriteT.searches g.Q.RewriteT.applies (AreModified g.N.Analysis.codes g.N.Analysis.meaning g.N.Analysis.may_ask g.N.Analysis.modifies) c.args.rules.now) (Calls g.H.Hook.leaves) (measures g.D.IterationData.made)
    (parts_of c.args.self.now) (parts_of c.begin-start.new.self) (parts_of c.take_turns.new.self) c.begin-start.result c.begin-start.ensures
    (ap (option_map stop_of) (none-if c.args.self.now.stop_reason c.is_some.result c.is_some.ensures c.if-is_some.false)) taken (stop_of has.0) (ap (option_map stop_of) has.1))

pub returns-clause-refused : goal.returns-clause-refused
returns-clause-refused g c =
    err-so c.take_turns.result c.take_turns.ensures.refused
    (λ e refused. refused-now g.K.Clock.tells (RulesOnce g.Q.RewriteT.searches g.Q.RewriteT.applies (AreModified g.N.Analysis.codes g.N.Analysis.meaning g.N.Analysis.may_ask g.N.Analysis.modifies) c.args.rules.now) (Calls g.H.Hook.leaves) (measures g.D.IterationData.made)
    (parts_of c.args.self.now) (parts_of c.begin-start.new.self) (parts_of c.take_turns.new.self) c.begin-start.result c.begin-start.ensures
    (ap (option_map stop_of) (none-if c.args.self.now.stop_reason c.is_some.result c.is_some.ensures c.if-is_some.false)) (RefusesTurn (RefusesRules g.Q.RewriteT.searches g.Q.RewriteT.gives_up g.Q.RewriteT.applies g.Q.RewriteT.breaks_off c.args.rules.now) (RulesOnce g.Q.RewriteT.searches g.Q.RewriteT.applies (AreModified g.N.Analysis.codes g.N.Analysis.meaning g.N.Analysis.may_ask g.N.Analysis.modifies) c.args.rules.now) g.H.Hook.gives_up (Calls g.H.Hook.leaves) g.D.IterationData.refuses) e refused)

pub returns-then-is_some-clause-lowers : goal.returns-then-is_some-clause-lowers
returns-then-is_some-clause-lowers g c = inr (lowers-itself g.N.Analysis.codes g.N.Analysis.meaning g.met.N.Analysis.is_merge c.args.self.now.egraph)

pub returns-clause-lowers : goal.returns-clause-lowers
returns-clause-lowers g c =
    let h = c.take_turns.new.self.egraph in
    subst (λ (x : Graph). IsTrue h.failed ⊎ LowersData g.N.Analysis.codes g.N.Analysis.meaning x h) (λ i. (c.begin-start.ensures.rest i).graph) c.take_turns.ensures.lowers
