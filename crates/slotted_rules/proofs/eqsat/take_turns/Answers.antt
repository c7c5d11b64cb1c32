-- Each turn goes on from where the ones before it led.
use Rattle.std.proofs.Common.{◌≡◌, ◌+◌, ◌-◌, ◌<◌, suc, false, subst, inl, inr, arith}
use Rattle.std.specs.Prelude.{option_map}
use Rattle.slotted_lists.proofs.Booleans.{unless-true}
use Rattle.slotted_graph.specs.Extension.{ExtendsTo}
use Rattle.slotted_graph.proofs.Extending.{extends-then}
use Rattle.slotted_rules.proofs.AppliedRules.{ok-well}
use Rattle.slotted_rules.specs.Applying.{AreModified, RefusesRules}
use Rattle.slotted_rules.specs.Eqsat.{HasCounted, IsEqsatTurn, HasBroken}
use Rattle.slotted_rules.specs.Seen.{stop_of}
use Rattle.slotted_rules.specs.Turning.{Calls, RulesOnce, RefusesTurn}
use Rattle.slotted_rules.proofs.Lowering.{later-lowers}
use Rattle.slotted_graph.proofs.Saying.{lowers-itself}
use Rattle.slotted_languages.proofs.HandedOn.{handed_err}
use Rattle.slotted_rules.proofs.EqsatTurns.{counted-broken, counted-last, counted-more, counted-none}
use Rattle.slotted_rules.proofs.eqsat.take_turns.Given.{Over}
use Rattle.slotted_rules.proofs.eqsat.take_turns.Goals as goal

pub loop-reason-init : goal.loop-reason-init
loop-reason-init g c = record {
  so_far = counted-none g.K.Clock.tells (RulesOnce g.Q.RewriteT.searches g.Q.RewriteT.applies (AreModified g.N.Analysis.codes g.N.Analysis.meaning g.N.Analysis.may_ask g.N.Analysis.modifies) c.args.rules.now) (Calls g.H.Hook.leaves) c.args.bounds.iterations c.args.bounds.seconds c.args.bounds.start (c.args.graph.now, c.args.hook.now) c.args.clock.now c.requires.well;
  lowers = lowers-itself g.N.Analysis.codes g.N.Analysis.meaning g.met.N.Analysis.is_merge c.args.graph.now;
}

pub returns-in_err-reason-clause-extends : goal.returns-in_err-reason-clause-extends
returns-in_err-reason-clause-extends g c = elim c.take_turn.ensures.extends [
  | inl failed ↦ inl failed
  | inr more ↦ inr (extends-then c.args.graph.now c.loop-reason.graph c.take_turn.new.graph c.loop-reason.invariant.so_far.extends more)
]

pub returns-in-Some-clause-ok : goal.returns-in-Some-clause-ok
returns-in-Some-clause-ok g c =
    counted-last g.K.Clock.tells (RulesOnce g.Q.RewriteT.searches g.Q.RewriteT.applies (AreModified g.N.Analysis.codes g.N.Analysis.meaning g.N.Analysis.may_ask g.N.Analysis.modifies) c.args.rules.now) (Calls g.H.Hook.leaves) c.args.bounds.iterations c.args.bounds.seconds c.args.bounds.start (c.args.graph.now, c.args.hook.now) c.args.clock.now
    c.loop-reason.counted (c.loop-reason.graph, c.loop-reason.hook) c.loop-reason.clock c.loop-reason.invariant.so_far (c.take_turn.new.graph, c.take_turn.new.hook) c.take_turn.new.clock (stop_of c.in-Some.reason)
    (subst (λ o. IsEqsatTurn g.K.Clock.tells (RulesOnce g.Q.RewriteT.searches g.Q.RewriteT.applies (AreModified g.N.Analysis.codes g.N.Analysis.meaning g.N.Analysis.may_ask g.N.Analysis.modifies) c.args.rules.now) (Calls g.H.Hook.leaves) c.args.bounds.iterations c.args.bounds.seconds c.args.bounds.start c.loop-reason.counted
    (c.loop-reason.graph, c.loop-reason.hook) c.loop-reason.clock (c.take_turn.new.graph, c.take_turn.new.hook) c.take_turn.new.clock (option_map stop_of o)) c.in-Some.is c.in_ok-reason.ensures.ok)

pub returns-in-Some-clause-extends : goal.returns-in-Some-clause-extends
returns-in-Some-clause-extends g c = elim c.take_turn.ensures.extends [
  | inl failed ↦ inl failed
  | inr more ↦ inr (extends-then c.args.graph.now c.loop-reason.graph c.take_turn.new.graph c.loop-reason.invariant.so_far.extends more)
]

-- a turn that goes on
more : (g : Over) (c : goal.In_default g) → (c.loop-reason.counted < c.args.bounds.iterations) × HasCounted g.K.Clock.tells (RulesOnce g.Q.RewriteT.searches g.Q.RewriteT.applies (AreModified g.N.Analysis.codes g.N.Analysis.meaning g.N.Analysis.may_ask g.N.Analysis.modifies) c.args.rules.now) (Calls g.H.Hook.leaves) c.args.bounds.iterations c.args.bounds.seconds
    c.args.bounds.start (c.args.graph.now, c.args.hook.now) c.args.clock.now (suc c.loop-reason.counted) (c.take_turn.new.graph, c.take_turn.new.hook) c.take_turn.new.clock
more g c =
    let h = c.take_turn.new.graph in
    let well : h.failed ≡ false = ok-well _ h.failed c.take_turn.result c.in_ok-reason.field-0 c.in_ok-reason.was c.take_turn.ensures.fails in
    counted-more g.K.Clock.tells (RulesOnce g.Q.RewriteT.searches g.Q.RewriteT.applies (AreModified g.N.Analysis.codes g.N.Analysis.meaning g.N.Analysis.may_ask g.N.Analysis.modifies) c.args.rules.now) (Calls g.H.Hook.leaves) c.args.bounds.iterations c.args.bounds.seconds c.args.bounds.start (c.args.graph.now, c.args.hook.now) c.args.clock.now
    c.loop-reason.counted (c.loop-reason.graph, c.loop-reason.hook) c.loop-reason.clock c.loop-reason.invariant.so_far (c.take_turn.new.graph, c.take_turn.new.hook) c.take_turn.new.clock
    (subst (λ o. IsEqsatTurn g.K.Clock.tells (RulesOnce g.Q.RewriteT.searches g.Q.RewriteT.applies (AreModified g.N.Analysis.codes g.N.Analysis.meaning g.N.Analysis.may_ask g.N.Analysis.modifies) c.args.rules.now) (Calls g.H.Hook.leaves) c.args.bounds.iterations c.args.bounds.seconds c.args.bounds.start c.loop-reason.counted
    (c.loop-reason.graph, c.loop-reason.hook) c.loop-reason.clock (c.take_turn.new.graph, c.take_turn.new.hook) c.take_turn.new.clock (option_map stop_of o)) c.in_default.is c.in_ok-reason.ensures.ok)
    well (unless-true {P = ExtendsTo c.loop-reason.graph c.take_turn.new.graph} h.failed well c.take_turn.ensures.extends)

pub overflow_add-counted : goal.overflow_add-counted
overflow_add-counted g c =
    let fits : c.args.bounds.iterations < 18446744073709551616 = assumption c.well_formed in
    let l : c.loop-reason.counted < c.args.bounds.iterations = (more g c).0 in
    omega (arith, fits, l)

pub loop-reason-smaller : goal.loop-reason-smaller
loop-reason-smaller g c =
    let next = more g c in
    let l : c.loop-reason.counted < c.args.bounds.iterations = next.0 in
    let e : c.args.bounds.iterations - (c.loop-reason.counted + 1) < c.args.bounds.iterations - c.loop-reason.counted = omega arith in
    e

pub loop-reason-preserved : goal.loop-reason-preserved
loop-reason-preserved g c =
    let next = more g c in
    let e : suc c.loop-reason.counted ≡ c.loop-reason.counted + 1 = omega arith in
    let h = c.take_turn.new.graph in
    let well : h.failed ≡ false = ok-well _ h.failed c.take_turn.result c.in_ok-reason.field-0 c.in_ok-reason.was c.take_turn.ensures.fails in
    record {
      so_far = subst (λ n. HasCounted g.K.Clock.tells (RulesOnce g.Q.RewriteT.searches g.Q.RewriteT.applies (AreModified g.N.Analysis.codes g.N.Analysis.meaning g.N.Analysis.may_ask g.N.Analysis.modifies) c.args.rules.now) (Calls g.H.Hook.leaves) c.args.bounds.iterations c.args.bounds.seconds c.args.bounds.start (c.args.graph.now, c.args.hook.now) c.args.clock.now
          n (c.take_turn.new.graph, c.take_turn.new.hook) c.take_turn.new.clock) e next.1;
      lowers = unless-true h.failed well (later-lowers g.N.Analysis.codes g.N.Analysis.meaning g.met.N.Analysis.is_merge c.args.graph.now c.loop-reason.graph c.take_turn.new.graph c.loop-reason.invariant.so_far.extends c.loop-reason.invariant.lowers c.take_turn.ensures.lowers);
    }

pub returns-in_err-reason-clause-refused : goal.returns-in_err-reason-clause-refused
returns-in_err-reason-clause-refused g c =
    let e = c.in_err-reason.field-0.0 in
    let refuses = RefusesTurn (RefusesRules g.Q.RewriteT.searches g.Q.RewriteT.gives_up g.Q.RewriteT.applies g.Q.RewriteT.breaks_off c.args.rules.now) (RulesOnce g.Q.RewriteT.searches g.Q.RewriteT.applies (AreModified g.N.Analysis.codes g.N.Analysis.meaning g.N.Analysis.may_ask g.N.Analysis.modifies) c.args.rules.now) g.H.Hook.gives_up (Calls g.H.Hook.leaves) (λ _. ⊥) in
    handed_err c.from_residual.result e c.from_residual.ensures.1 (HasBroken g.K.Clock.tells (RulesOnce g.Q.RewriteT.searches g.Q.RewriteT.applies (AreModified g.N.Analysis.codes g.N.Analysis.meaning g.N.Analysis.may_ask g.N.Analysis.modifies) c.args.rules.now) (Calls g.H.Hook.leaves) c.args.bounds.iterations c.args.bounds.seconds refuses c.args.bounds.start (c.args.graph.now, c.args.hook.now) c.args.clock.now (c.take_turn.new.graph, c.take_turn.new.hook) c.take_turn.new.clock)
    (counted-broken g.K.Clock.tells (RulesOnce g.Q.RewriteT.searches g.Q.RewriteT.applies (AreModified g.N.Analysis.codes g.N.Analysis.meaning g.N.Analysis.may_ask g.N.Analysis.modifies) c.args.rules.now) (Calls g.H.Hook.leaves) c.args.bounds.iterations c.args.bounds.seconds c.args.bounds.start (c.args.graph.now, c.args.hook.now) c.args.clock.now
    c.loop-reason.counted (c.loop-reason.graph, c.loop-reason.hook) c.loop-reason.clock c.loop-reason.invariant.so_far refuses e (c.take_turn.new.graph, c.take_turn.new.hook) c.take_turn.new.clock c.in_err-reason.ensures.clock c.in_err-reason.ensures.refused)

pub returns-in_err-reason-clause-lowers : goal.returns-in_err-reason-clause-lowers
returns-in_err-reason-clause-lowers g c = later-lowers g.N.Analysis.codes g.N.Analysis.meaning g.met.N.Analysis.is_merge c.args.graph.now c.loop-reason.graph c.take_turn.new.graph c.loop-reason.invariant.so_far.extends c.loop-reason.invariant.lowers c.take_turn.ensures.lowers

pub returns-in-Some-clause-lowers : goal.returns-in-Some-clause-lowers
returns-in-Some-clause-lowers g c = later-lowers g.N.Analysis.codes g.N.Analysis.meaning g.met.N.Analysis.is_merge c.args.graph.now c.loop-reason.graph c.take_turn.new.graph c.loop-reason.invariant.so_far.extends c.loop-reason.invariant.lowers c.take_turn.ensures.lowers
