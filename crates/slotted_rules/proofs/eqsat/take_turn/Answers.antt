-- The rules, the hook, and why it stops.
use Rattle.std.specs.Prelude.{not, option_map}
use Rattle.slotted_rules.specs.Applying.{AreModified}
use Rattle.slotted_rules.specs.Seen.{stop_of}
use Rattle.slotted_rules.specs.Turning.{Calls, RulesOnce}
use Rattle.slotted_rules.proofs.EqsatTurns.{eqsat-turn-of}
use Rattle.slotted_rules.proofs.eqsat.take_turn.Goals as goal

pub returns-clause-ok : goal.returns-clause-ok
returns-clause-ok g c =
    eqsat-turn-of g.K.Clock.tells (RulesOnce g.Q.RewriteT.searches g.Q.RewriteT.applies (AreModified g.N.Analysis.codes g.N.Analysis.meaning g.N.Analysis.may_ask g.N.Analysis.modifies) c.args.rules.now) (Calls g.H.Hook.leaves) c.args.bounds.iterations c.args.bounds.seconds c.args.bounds.start c.args.counted
    (c.args.graph.now, c.args.hook.now) (c.apply_and_call.new.graph, c.apply_and_call.new.hook) (not c.in_ok-called.called.changed) c.in_ok-called.called.stop c.in_ok-called.ensures.ok
    c.args.clock.now c.reason.new.clock (option_map stop_of c.reason.result) c.reason.ensures
