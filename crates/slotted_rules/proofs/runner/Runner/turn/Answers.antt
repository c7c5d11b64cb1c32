-- The rules, the hook, why it stops, and the reading at its end.
use Rattle.std.proofs.Common.{◌∙◌, Some, subst, ◌≡◌, ℕ, [], length, refl, arith, inl, inr}
use Rattle.std.specs.Prelude.{◌⊎◌, not, option_map}
use Rattle.slotted_rules.specs.Applying.{AreModified, RefusesRules}
use Rattle.slotted_rules.specs.RunLoops.{IsTurn}
use Rattle.slotted_rules.specs.Runs.{MayRefuse}
use Rattle.slotted_rules.specs.Seen.{limits_of, stop_of}
use Rattle.slotted_rules.specs.Turning.{Calls, RulesOnce, measures, RefusesTurn, data_refused, no_room}
use Rattle.slotted_languages.proofs.HandedOn.{handed_err}
use Rattle.slotted_slots.specs.declared.error.Error.{Error}
use Rattle.slotted_slots.specs.Error.{IsShortage}
use Rattle.slotted_rules.proofs.RefusedRuns.{turn-kept}
use Rattle.slotted_rules.proofs.Storing.{on-err}
use Rattle.slotted_rules.proofs.Turns.{turn-of, read-few}
use Rattle.slotted_rules.proofs.runner.Runner.turn.Goals as goal

pub returns-clause-ok : goal.returns-clause-ok
returns-clause-ok g c =
    let rules = RulesOnce g.Q.RewriteT.searches g.Q.RewriteT.applies (AreModified g.N.Analysis.codes g.N.Analysis.meaning g.N.Analysis.may_ask g.N.Analysis.modifies) c.args.rules.now in
    let calls = Calls g.H.Hook.leaves in
    let limits = limits_of c.args.self.now.limits in
    let stop = option_map stop_of c.reason-stop.result in
    subst (λ n. IsTurn g.K.Clock.tells rules calls (measures g.D.IterationData.made) limits c.args.start n (c.args.self.now.egraph, c.args.self.now.hook) c.args.self.now.clock (c.apply_and_call.new.graph, c.apply_and_call.new.hook) c.now.new.self stop (record { made = c.in_ok-made.made; num_nodes = c.total_number_of_nodes-num_nodes.result; finish_time = Some c.now.result })) (c.len-stored.ensures ∙ c.args.self.now.iterations.ok.0)
    (turn-of g.K.Clock.tells rules calls g.D.IterationData.made limits c.args.start c.len-stored.result (c.args.self.now.egraph, c.args.self.now.hook) (c.apply_and_call.new.graph, c.apply_and_call.new.hook) (not c.in_ok-called.called.changed) c.in_ok-called.called.stop c.in_ok-called.ensures.ok c.total_number_of_nodes-num_nodes.result c.total_number_of_nodes-num_nodes.ensures
    c.args.self.now.clock c.reason-stop.new.clock c.now.new.self stop c.reason-stop.ensures c.in_ok-made.made c.in_ok-made.ensures.ok c.now.result c.now.ensures)

pub returns-in_err-called-clause-clock : goal.returns-in_err-called-clause-clock
returns-in_err-called-clause-clock g c = on-err c.from_residual.result (record { readings = []; told = refl; few = omega arith })

pub returns-in_err-made-clause-clock : goal.returns-in_err-made-clause-clock
returns-in_err-made-clause-clock g c =
    let why = c.reason-stop.ensures in
    on-err c.from_residual-in_err-made.result (record { readings = why.readings; told = why.told; few = read-few c.in_ok-called.called.stop (length why.readings) (why.reads 0) })

pub returns-in_err-called-clause-refused : goal.returns-in_err-called-clause-refused
returns-in_err-called-clause-refused g c =
    let e = c.in_err-called.field-0.0 in
    let n = c.len-stored.result in
    let Refused : ℕ → Error → Type 0 = λ i x. RefusesTurn (RefusesRules g.Q.RewriteT.searches g.Q.RewriteT.gives_up g.Q.RewriteT.applies g.Q.RewriteT.breaks_off c.args.rules.now) (RulesOnce g.Q.RewriteT.searches g.Q.RewriteT.applies (AreModified g.N.Analysis.codes g.N.Analysis.meaning g.N.Analysis.may_ask g.N.Analysis.modifies) c.args.rules.now) g.H.Hook.gives_up (Calls g.H.Hook.leaves) g.D.IterationData.refuses (c.args.self.now.egraph, c.args.self.now.hook) i (c.apply_and_call.new.graph, c.apply_and_call.new.hook) x in
    let count : n ≡ length c.args.self.now.iterations.items = c.len-stored.ensures ∙ c.args.self.now.iterations.ok.0 in
    handed_err c.from_residual.result e c.from_residual.ensures.1 (Refused (length c.args.self.now.iterations.items))
    (subst (λ i. Refused i e) count (turn-kept (RefusesRules g.Q.RewriteT.searches g.Q.RewriteT.gives_up g.Q.RewriteT.applies g.Q.RewriteT.breaks_off c.args.rules.now) (RulesOnce g.Q.RewriteT.searches g.Q.RewriteT.applies (AreModified g.N.Analysis.codes g.N.Analysis.meaning g.N.Analysis.may_ask g.N.Analysis.modifies) c.args.rules.now) g.H.Hook.gives_up (Calls g.H.Hook.leaves) g.D.IterationData.refuses (c.args.self.now.egraph, c.args.self.now.hook) (c.apply_and_call.new.graph, c.apply_and_call.new.hook) n e c.in_err-called.ensures.refused))

pub returns-in_err-made-clause-refused : goal.returns-in_err-made-clause-refused
returns-in_err-made-clause-refused g c =
    let e = c.in_err-made.field-0.0 in
    let n = c.len-stored.result in
    let Refused : ℕ → Error → Type 0 = λ i x. RefusesTurn (RefusesRules g.Q.RewriteT.searches g.Q.RewriteT.gives_up g.Q.RewriteT.applies g.Q.RewriteT.breaks_off c.args.rules.now) (RulesOnce g.Q.RewriteT.searches g.Q.RewriteT.applies (AreModified g.N.Analysis.codes g.N.Analysis.meaning g.N.Analysis.may_ask g.N.Analysis.modifies) c.args.rules.now) g.H.Hook.gives_up (Calls g.H.Hook.leaves) g.D.IterationData.refuses (c.args.self.now.egraph, c.args.self.now.hook) i (c.apply_and_call.new.graph, c.apply_and_call.new.hook) x in
    let count : n ≡ length c.args.self.now.iterations.items = c.len-stored.ensures ∙ c.args.self.now.iterations.ok.0 in
    let called = c.in_ok-called.ensures.ok in
    let turn : Refused n e = elim c.in_err-made.ensures.err [
      | inl short ↦ no_room short c.apply_and_call.ensures.extends
      | inr refused ↦ data_refused called.applied c.in_ok-called.called.stop called.by_rules called.by_hook refused
    ] in
    handed_err c.from_residual-in_err-made.result e c.from_residual-in_err-made.ensures.1 (Refused (length c.args.self.now.iterations.items)) (subst (λ i. Refused i e) count turn)

pub returns-in_err-called-clause-err : goal.returns-in_err-called-clause-err
returns-in_err-called-clause-err g c =
    handed_err c.from_residual.result c.in_err-called.field-0.0 c.from_residual.ensures.1 (λ e. IsShortage e ⊎ MayRefuse g.Q.RewriteT.refuses c.args.rules.now g.H.Hook.refuses g.D.IterationData.refuses e)
    (elim c.in_err-called.ensures.err [
      | inl short ↦ inl short
      | inr refused ↦ elim refused [
        | inl rule ↦ inr (inl rule)
        | inr hook ↦ inr (inr (inl hook))
      ]
    ])
