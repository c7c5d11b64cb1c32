-- The report of the turns, between a first reading and a last one.
use Rattle.std.proofs.Common.{◌≡◌, ◌∙◌, false, Result, Ok, Err, IfOk, ap, sym, subst, inr, IfErr}
use Rattle.std.specs.Prelude.{IsErrAnd, ◌⊎◌, IsTrue}
use Rattle.slotted_lists.proofs.Booleans.{unless-true}
use Rattle.slotted_slots.specs.declared.error.Error.{Error}
use Rattle.slotted_slots.specs.Error.{IsShortage}
use Rattle.slotted_operations.specs.Graph.{Graph}
use Rattle.slotted_graph.specs.Measure.{IsProgress}
use Rattle.slotted_rules.proofs.AppliedRules.{ok-well}
use Rattle.slotted_rules.specs.Applying.{AreModified, RefusesRules}
use Rattle.slotted_rules.specs.Eqsat.{HasBroken, HasEnded, HasRefusedEqsat}
use Rattle.slotted_rules.specs.Seen.{stop_of}
use Rattle.slotted_rules.specs.Turning.{Calls, RulesOnce, RefusesTurn}
use Rattle.slotted_rules.proofs.LeftGraphs.{left-so}
use Rattle.slotted_graph.specs.Analysed.{LowersData}
use Rattle.slotted_languages.proofs.HandedOn.{handed_err}
use Rattle.slotted_rules.proofs.RefusedRuns.{spoiled}
use Rattle.slotted_rules.proofs.EqsatReports.{refused-eqsat, reported-eqsat}
use Rattle.slotted_rules.proofs.eqsat.run_eqsat.Goals as goal

pub returns-clause-ok : goal.returns-clause-ok
returns-clause-ok g c =
    let was : c.take_turns-outcome.result ≡ Ok c.in_ok-ended.ended = sym c.fail_if_short.ensures.same ∙ c.in_ok-ended.was in
    let well : c.take_turns-outcome.new.graph.failed ≡ false = ok-well _ c.take_turns-outcome.new.graph.failed c.take_turns-outcome.result c.in_ok-ended.ended was c.take_turns-outcome.ensures.fails in
    let left : c.fail_if_short.new.graph ≡ c.take_turns-outcome.new.graph = c.fail_if_short.ensures.other (λ short. subst (λ (r : Result _ Error). IsErrAnd r IsShortage) was short) in
    let still : c.fail_if_short.new.graph.failed ≡ false = ap (λ (x : Graph). x.failed) left ∙ well in
    let measure : IsProgress c.fail_if_short.new.graph.image c.progress.result = unless-true c.fail_if_short.new.graph.failed still c.progress.ensures.measure in
    reported-eqsat g.K.Clock.tells (RulesOnce g.Q.RewriteT.searches g.Q.RewriteT.applies (AreModified g.N.Analysis.codes g.N.Analysis.meaning g.N.Analysis.may_ask g.N.Analysis.modifies) c.args.rules.now) (Calls g.H.Hook.leaves) c.args.iter_limit c.args.time_limit_seconds
    (c.args.graph.now, c.args.hook.now) (c.fail_if_short.new.graph, c.take_turns-outcome.new.hook) c.args.clock.now c.now.new.self c.take_turns-outcome.new.clock c.now-2.new.self c.now.result c.now-2.result c.now.ensures
    c.in_ok-ended.ended.counted c.in_ok-ended.ended.reason
    (subst (λ x. HasEnded g.K.Clock.tells (RulesOnce g.Q.RewriteT.searches g.Q.RewriteT.applies (AreModified g.N.Analysis.codes g.N.Analysis.meaning g.N.Analysis.may_ask g.N.Analysis.modifies) c.args.rules.now) (Calls g.H.Hook.leaves) c.args.iter_limit c.args.time_limit_seconds c.now.result
    (c.args.graph.now, c.args.hook.now) c.now.new.self (x, c.take_turns-outcome.new.hook) c.take_turns-outcome.new.clock c.in_ok-ended.ended.counted (stop_of c.in_ok-ended.ended.reason)) (sym left)
    (subst (λ (r : Result _ Error). IfOk r (λ e. HasEnded g.K.Clock.tells (RulesOnce g.Q.RewriteT.searches g.Q.RewriteT.applies (AreModified g.N.Analysis.codes g.N.Analysis.meaning g.N.Analysis.may_ask g.N.Analysis.modifies) c.args.rules.now) (Calls g.H.Hook.leaves) c.args.iter_limit c.args.time_limit_seconds c.now.result
    (c.args.graph.now, c.args.hook.now) c.now.new.self (c.take_turns-outcome.new.graph, c.take_turns-outcome.new.hook) c.take_turns-outcome.new.clock e.counted (stop_of e.reason))) was c.take_turns-outcome.ensures.ok))
    c.now-2.ensures c.total_number_of_nodes.result c.progress.result.number_of_live_classes c.saturating_sub.result c.total_number_of_nodes.ensures measure.live c.saturating_sub.ensures

pub returns-in_err-ended-clause-refused : goal.returns-in_err-ended-clause-refused
returns-in_err-ended-clause-refused g c =
    let e = c.in_err-ended.field-0.0 in
    let o = c.take_turns-outcome in
    let was : o.result ≡ Err e = sym c.fail_if_short.ensures.same ∙ c.in_err-ended.was in
    let refuses = RefusesTurn (RefusesRules g.Q.RewriteT.searches g.Q.RewriteT.gives_up g.Q.RewriteT.applies g.Q.RewriteT.breaks_off c.args.rules.now) (RulesOnce g.Q.RewriteT.searches g.Q.RewriteT.applies (AreModified g.N.Analysis.codes g.N.Analysis.meaning g.N.Analysis.may_ask g.N.Analysis.modifies) c.args.rules.now) g.H.Hook.gives_up (Calls g.H.Hook.leaves) (λ _. ⊥) in
    let broken = subst (λ (r : Result _ Error). IfErr r (HasBroken g.K.Clock.tells (RulesOnce g.Q.RewriteT.searches g.Q.RewriteT.applies (AreModified g.N.Analysis.codes g.N.Analysis.meaning g.N.Analysis.may_ask g.N.Analysis.modifies) c.args.rules.now) (Calls g.H.Hook.leaves) c.args.iter_limit c.args.time_limit_seconds refuses c.now.result (c.args.graph.now, c.args.hook.now) c.now.new.self (o.new.graph, o.new.hook) o.new.clock)) was o.ensures.refused in
    handed_err c.from_residual.result e c.from_residual.ensures.1
    (λ x. IsTrue c.args.graph.now.failed ⊎ HasRefusedEqsat g.K.Clock.tells (RulesOnce g.Q.RewriteT.searches g.Q.RewriteT.applies (AreModified g.N.Analysis.codes g.N.Analysis.meaning g.N.Analysis.may_ask g.N.Analysis.modifies) c.args.rules.now) (Calls g.H.Hook.leaves) c.args.iter_limit c.args.time_limit_seconds refuses (c.args.graph.now, c.args.hook.now) c.args.clock.now (c.fail_if_short.new.graph, o.new.hook) o.new.clock x)
    (inr (refused-eqsat g.K.Clock.tells (RulesOnce g.Q.RewriteT.searches g.Q.RewriteT.applies (AreModified g.N.Analysis.codes g.N.Analysis.meaning g.N.Analysis.may_ask g.N.Analysis.modifies) c.args.rules.now) (Calls g.H.Hook.leaves) c.args.iter_limit c.args.time_limit_seconds refuses (spoiled (RefusesRules g.Q.RewriteT.searches g.Q.RewriteT.gives_up g.Q.RewriteT.applies g.Q.RewriteT.breaks_off c.args.rules.now) (RulesOnce g.Q.RewriteT.searches g.Q.RewriteT.applies (AreModified g.N.Analysis.codes g.N.Analysis.meaning g.N.Analysis.may_ask g.N.Analysis.modifies) c.args.rules.now) g.H.Hook.gives_up (Calls g.H.Hook.leaves) (λ _. ⊥)) e
    o.result was (c.args.graph.now, c.args.hook.now) (o.new.graph, o.new.hook) c.args.clock.now c.now.new.self o.new.clock c.now.result c.now.ensures broken c.fail_if_short.new.graph (c.fail_if_short.ensures.short, c.fail_if_short.ensures.other)))

pub returns-in_err-ended-clause-lowers : goal.returns-in_err-ended-clause-lowers
returns-in_err-ended-clause-lowers g c = left-so (LowersData g.N.Analysis.codes g.N.Analysis.meaning c.args.graph.now) c.take_turns-outcome.new.graph c.fail_if_short.new.graph c.take_turns-outcome.result c.take_turns-outcome.ensures.lowers c.fail_if_short.ensures.short c.fail_if_short.ensures.other

pub returns-clause-lowers : goal.returns-clause-lowers
returns-clause-lowers g c = left-so (LowersData g.N.Analysis.codes g.N.Analysis.meaning c.args.graph.now) c.take_turns-outcome.new.graph c.fail_if_short.new.graph c.take_turns-outcome.result c.take_turns-outcome.ensures.lowers c.fail_if_short.ensures.short c.fail_if_short.ensures.other
