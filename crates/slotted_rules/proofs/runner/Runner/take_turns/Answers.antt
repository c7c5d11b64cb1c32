-- Each turn goes on from where the ones before it led.
use Rattle.std.proofs.lemmas.List.{length-map}
use Rattle.std.proofs.Common.{◌≡◌, ◌∙◌, map, false, refl, ap, inl, inr, IfErr, length, rules, sym, subst, arith}
use Rattle.std.specs.Prelude.{option_map}
use Rattle.slotted_lists.proofs.Booleans.{unless-true}
use Rattle.slotted_graph.specs.Extension.{ExtendsTo}
use Rattle.slotted_graph.proofs.Extending.{extends-then}
use Rattle.slotted_rules.proofs.AppliedRules.{ok-well}
use Rattle.slotted_rules.specs.Applying.{AreModified, RefusesRules}
use Rattle.slotted_rules.specs.Seen.{iteration_of, limits_of, parts_of, stop_of}
use Rattle.slotted_rules.specs.Turning.{Calls, RulesOnce, measures, RefusesTurn, no_room}
use Rattle.slotted_rules.proofs.Lowering.{later-lowers}
use Rattle.slotted_graph.proofs.Saying.{lowers-itself}
use Rattle.slotted_languages.proofs.HandedOn.{handed_err}
use Rattle.slotted_slots.specs.Error.{IsShortage}
use Rattle.slotted_rules.specs.RunLoops.{HasRefused}
use Rattle.slotted_rules.proofs.Turns.{refused-more, taken-none, read-at-most}
use Rattle.slotted_rules.proofs.Storing.{err-so, fewer-left, none-of, taken-stored}
use Rattle.slotted_rules.proofs.runner.Runner.take_turns.Goals as goal

pub loop-self-init : goal.loop-self-init
loop-self-init g c = record {
  so_far = taken-none g.K.Clock.tells (RulesOnce g.Q.RewriteT.searches g.Q.RewriteT.applies (AreModified g.N.Analysis.codes g.N.Analysis.meaning g.N.Analysis.may_ask g.N.Analysis.modifies) c.args.rules.now) (Calls g.H.Hook.leaves) (measures g.D.IterationData.made) (limits_of c.args.self.now.limits) c.args.start (parts_of c.args.self.now)
      (ap (option_map stop_of) c.requires.goes_on) c.requires.well;
  lowers = lowers-itself g.N.Analysis.codes g.N.Analysis.meaning g.met.N.Analysis.is_merge c.args.self.now.egraph;
}

pub returns-in_err-turn-clause-extends : goal.returns-in_err-turn-clause-extends
returns-in_err-turn-clause-extends g c = elim c.turn.ensures.extends [
  | inl failed ↦ inl failed
  | inr more ↦ inr (extends-then c.args.self.now.egraph c.loop-self.self.egraph c.turn.new.self.egraph c.loop-self.invariant.so_far.extends more)
]

pub returns-in_err-push-clause-extends : goal.returns-in_err-push-clause-extends
returns-in_err-push-clause-extends g c = elim c.turn.ensures.extends [
  | inl failed ↦ inl failed
  | inr more ↦ inr (extends-then c.args.self.now.egraph c.loop-self.self.egraph c.turn.new.self.egraph c.loop-self.invariant.so_far.extends more)
]

pub loop-self-smaller : goal.loop-self-smaller
loop-self-smaller g c =
    fewer-left g.K.Clock.tells (RulesOnce g.Q.RewriteT.searches g.Q.RewriteT.applies (AreModified g.N.Analysis.codes g.N.Analysis.meaning g.N.Analysis.may_ask g.N.Analysis.modifies) c.args.rules.now) (Calls g.H.Hook.leaves) (measures g.D.IterationData.made) (limits_of c.loop-self.self.limits) c.args.start
    c.loop-self.self.stop_reason c.in_ok-turn.turn.stop (none-of c.loop-self.self.stop_reason c.is_none.result c.is_none.ensures c.loop-self-test.true)
    c.loop-self.self.iterations.items c.turn.new.self.iterations.items c.push.new.self.items c.in_ok-turn.turn.kept (λ i. (c.turn.ensures.rest i).iterations) c.in_ok-push.ensures.items
    (c.loop-self.self.egraph, c.loop-self.self.hook) (c.turn.new.self.egraph, c.turn.new.self.hook) c.loop-self.self.clock c.turn.new.self.clock c.in_ok-turn.ensures.ok c.turn.new.self.limits.iterations (λ i. (c.turn.ensures.rest i).limits.iterations)

pub loop-self-preserved : goal.loop-self-preserved
loop-self-preserved g c =
    let well : c.turn.new.self.egraph.failed ≡ false = ok-well _ c.turn.new.self.egraph.failed c.turn.result c.in_ok-turn.turn c.in_ok-turn.was c.turn.ensures.fails in
    record {
      so_far = taken-stored g.K.Clock.tells (RulesOnce g.Q.RewriteT.searches g.Q.RewriteT.applies (AreModified g.N.Analysis.codes g.N.Analysis.meaning g.N.Analysis.may_ask g.N.Analysis.modifies) c.args.rules.now) (Calls g.H.Hook.leaves) (measures g.D.IterationData.made) c.args.start
          (parts_of c.args.self.now) (parts_of c.loop-self.self) (parts_of c.turn.new.self) c.loop-self.invariant.so_far (ap (option_map stop_of) (none-of c.loop-self.self.stop_reason c.is_none.result c.is_none.ensures c.loop-self-test.true))
          c.turn.ensures.rest c.loop-self.self.iterations.items c.turn.new.self.iterations.items c.push.new.self.items c.in_ok-turn.turn.kept c.in_ok-turn.turn.stop refl refl c.in_ok-push.ensures.items c.in_ok-turn.ensures.ok well
          (unless-true {P = ExtendsTo c.loop-self.self.egraph c.turn.new.self.egraph} c.turn.new.self.egraph.failed well c.turn.ensures.extends);
      lowers = unless-true c.turn.new.self.egraph.failed well (later-lowers g.N.Analysis.codes g.N.Analysis.meaning g.met.N.Analysis.is_merge c.args.self.now.egraph c.loop-self.self.egraph c.turn.new.self.egraph c.loop-self.invariant.so_far.extends c.loop-self.invariant.lowers c.turn.ensures.lowers);
    }

pub loop-self-preserved-in_ok-push : goal.loop-self-preserved-in_ok-push
loop-self-preserved-in_ok-push g c =
    let well : c.turn.new.self.egraph.failed ≡ false = ok-well _ c.turn.new.self.egraph.failed c.turn.result c.in_ok-turn.turn c.in_ok-turn.was c.turn.ensures.fails in
    record {
      so_far = taken-stored g.K.Clock.tells (RulesOnce g.Q.RewriteT.searches g.Q.RewriteT.applies (AreModified g.N.Analysis.codes g.N.Analysis.meaning g.N.Analysis.may_ask g.N.Analysis.modifies) c.args.rules.now) (Calls g.H.Hook.leaves) (measures g.D.IterationData.made) c.args.start
          (parts_of c.args.self.now) (parts_of c.loop-self.self) (parts_of c.turn.new.self) c.loop-self.invariant.so_far (ap (option_map stop_of) (none-of c.loop-self.self.stop_reason c.is_none.result c.is_none.ensures c.loop-self-test.true))
          c.turn.ensures.rest c.loop-self.self.iterations.items c.turn.new.self.iterations.items c.push.new.self.items c.in_ok-turn.turn.kept c.in_ok-turn.turn.stop refl refl c.in_ok-push.ensures.items c.in_ok-turn.ensures.ok well
          (unless-true {P = ExtendsTo c.loop-self.self.egraph c.turn.new.self.egraph} c.turn.new.self.egraph.failed well c.turn.ensures.extends);
      lowers = unless-true c.turn.new.self.egraph.failed well (later-lowers g.N.Analysis.codes g.N.Analysis.meaning g.met.N.Analysis.is_merge c.args.self.now.egraph c.loop-self.self.egraph c.turn.new.self.egraph c.loop-self.invariant.so_far.extends c.loop-self.invariant.lowers c.turn.ensures.lowers);
    }

pub loop-self-preserved-in_ok-push-2 : goal.loop-self-preserved-in_ok-push-2
loop-self-preserved-in_ok-push-2 g c =
    let well : c.turn.new.self.egraph.failed ≡ false = ok-well _ c.turn.new.self.egraph.failed c.turn.result c.in_ok-turn.turn c.in_ok-turn.was c.turn.ensures.fails in
    record {
      so_far = taken-stored g.K.Clock.tells (RulesOnce g.Q.RewriteT.searches g.Q.RewriteT.applies (AreModified g.N.Analysis.codes g.N.Analysis.meaning g.N.Analysis.may_ask g.N.Analysis.modifies) c.args.rules.now) (Calls g.H.Hook.leaves) (measures g.D.IterationData.made) c.args.start
          (parts_of c.args.self.now) (parts_of c.loop-self.self) (parts_of c.turn.new.self) c.loop-self.invariant.so_far (ap (option_map stop_of) (none-of c.loop-self.self.stop_reason c.is_none.result c.is_none.ensures c.loop-self-test.true))
          c.turn.ensures.rest c.loop-self.self.iterations.items c.turn.new.self.iterations.items c.push.new.self.items c.in_ok-turn.turn.kept c.in_ok-turn.turn.stop refl refl c.in_ok-push.ensures.items c.in_ok-turn.ensures.ok well
          (unless-true {P = ExtendsTo c.loop-self.self.egraph c.turn.new.self.egraph} c.turn.new.self.egraph.failed well c.turn.ensures.extends);
      lowers = unless-true c.turn.new.self.egraph.failed well (later-lowers g.N.Analysis.codes g.N.Analysis.meaning g.met.N.Analysis.is_merge c.args.self.now.egraph c.loop-self.self.egraph c.turn.new.self.egraph c.loop-self.invariant.so_far.extends c.loop-self.invariant.lowers c.turn.ensures.lowers);
    }

pub returns-in_err-turn-clause-refused : goal.returns-in_err-turn-clause-refused
returns-in_err-turn-clause-refused g c =
    let refuses = RefusesTurn (RefusesRules g.Q.RewriteT.searches g.Q.RewriteT.gives_up g.Q.RewriteT.applies g.Q.RewriteT.breaks_off c.args.rules.now) (RulesOnce g.Q.RewriteT.searches g.Q.RewriteT.applies (AreModified g.N.Analysis.codes g.N.Analysis.meaning g.N.Analysis.may_ask g.N.Analysis.modifies) c.args.rules.now) g.H.Hook.gives_up (Calls g.H.Hook.leaves) g.D.IterationData.refuses in
    let p = parts_of c.args.self.now in
    let q = parts_of c.loop-self.self in
    let limits = limits_of c.args.self.now.limits in
    let on = ap (option_map stop_of) (none-of c.loop-self.self.stop_reason c.is_none.result c.is_none.ensures c.loop-self-test.true) in
    let begins = ap (option_map stop_of) c.requires.goes_on in
    let count : length c.loop-self.self.iterations.items ≡ length q.iterations = sym (length-map c.loop-self.self.iterations.items iteration_of) in
    let e = c.in_err-turn.field-0.0 in
    let read = c.in_err-turn.ensures.clock in
    let r = parts_of c.turn.new.self in
    let turn = subst (λ n. refuses (q.graph, q.hook) n (r.graph, r.hook) e) count c.in_err-turn.ensures.refused in
    handed_err c.from_residual.result e c.from_residual.ensures.1 (HasRefused g.K.Clock.tells (RulesOnce g.Q.RewriteT.searches g.Q.RewriteT.applies (AreModified g.N.Analysis.codes g.N.Analysis.meaning g.N.Analysis.may_ask g.N.Analysis.modifies) c.args.rules.now) (Calls g.H.Hook.leaves) (measures g.D.IterationData.made) limits c.args.start refuses p r)
    (refused-more g.K.Clock.tells (RulesOnce g.Q.RewriteT.searches g.Q.RewriteT.applies (AreModified g.N.Analysis.codes g.N.Analysis.meaning g.N.Analysis.may_ask g.N.Analysis.modifies) c.args.rules.now) (Calls g.H.Hook.leaves) (measures g.D.IterationData.made) limits c.args.start p q r c.loop-self.invariant.so_far on refuses e begins read.readings read.told (omega (arith, read.few)) turn c.turn.ensures.rest)

pub returns-in_err-push-clause-refused : goal.returns-in_err-push-clause-refused
returns-in_err-push-clause-refused g c =
    let refuses = RefusesTurn (RefusesRules g.Q.RewriteT.searches g.Q.RewriteT.gives_up g.Q.RewriteT.applies g.Q.RewriteT.breaks_off c.args.rules.now) (RulesOnce g.Q.RewriteT.searches g.Q.RewriteT.applies (AreModified g.N.Analysis.codes g.N.Analysis.meaning g.N.Analysis.may_ask g.N.Analysis.modifies) c.args.rules.now) g.H.Hook.gives_up (Calls g.H.Hook.leaves) g.D.IterationData.refuses in
    let p = parts_of c.args.self.now in
    let q = parts_of c.loop-self.self in
    let limits = limits_of c.args.self.now.limits in
    let on = ap (option_map stop_of) (none-of c.loop-self.self.stop_reason c.is_none.result c.is_none.ensures c.loop-self-test.true) in
    let begins = ap (option_map stop_of) c.requires.goes_on in
    let count : length c.loop-self.self.iterations.items ≡ length q.iterations = sym (length-map c.loop-self.self.iterations.items iteration_of) in
    let turn = c.in_ok-turn.ensures.ok in
    let r = record (parts_of c.turn.new.self) { iterations = map iteration_of c.push.new.self.items } in
    let few = read-at-most g.K.Clock.tells (RulesOnce g.Q.RewriteT.searches g.Q.RewriteT.applies (AreModified g.N.Analysis.codes g.N.Analysis.meaning g.N.Analysis.may_ask g.N.Analysis.modifies) c.args.rules.now) (Calls g.H.Hook.leaves) (measures g.D.IterationData.made) (limits_of c.loop-self.self.limits) c.args.start (length c.loop-self.self.iterations.items) (q.graph, q.hook) (r.graph, r.hook) q.clock r.clock
    (option_map stop_of c.in_ok-turn.turn.stop) (iteration_of c.in_ok-turn.turn.kept) turn in
    let short : IfErr c.from_residual-in_err-push.result IsShortage = search rules in
    err-so c.from_residual-in_err-push.result short
    (λ e lacks. refused-more g.K.Clock.tells (RulesOnce g.Q.RewriteT.searches g.Q.RewriteT.applies (AreModified g.N.Analysis.codes g.N.Analysis.meaning g.N.Analysis.may_ask g.N.Analysis.modifies) c.args.rules.now) (Calls g.H.Hook.leaves) (measures g.D.IterationData.made) limits c.args.start p q r c.loop-self.invariant.so_far on refuses e begins turn.readings turn.told few (no_room lacks c.turn.ensures.extends)
    ((λ i. record (parts_of c.turn.new.self) { iterations = map iteration_of (c.in_err-push.ensures.items i) }) ∙ c.turn.ensures.rest))

pub returns-in_err-turn-clause-lowers : goal.returns-in_err-turn-clause-lowers
returns-in_err-turn-clause-lowers g c = later-lowers g.N.Analysis.codes g.N.Analysis.meaning g.met.N.Analysis.is_merge c.args.self.now.egraph c.loop-self.self.egraph c.turn.new.self.egraph c.loop-self.invariant.so_far.extends c.loop-self.invariant.lowers c.turn.ensures.lowers

pub returns-in_err-push-clause-lowers : goal.returns-in_err-push-clause-lowers
returns-in_err-push-clause-lowers g c = later-lowers g.N.Analysis.codes g.N.Analysis.meaning g.met.N.Analysis.is_merge c.args.self.now.egraph c.loop-self.self.egraph c.turn.new.self.egraph c.loop-self.invariant.so_far.extends c.loop-self.invariant.lowers c.turn.ensures.lowers

pub returns-clause-lowers : goal.returns-clause-lowers
returns-clause-lowers g c = inr c.loop-self.invariant.lowers
