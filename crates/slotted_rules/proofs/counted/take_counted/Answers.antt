-- Each turn goes on from where the ones before it led.
use Rattle.std.proofs.Common.{◌≡◌, ◌∷◌, [], List, false, length, length-append, Result, IfErr, ap, subst, inl, inr, arith}
use Rattle.std.specs.Prelude.{◌⊎◌, IsTrue}
use Rattle.slotted_lists.proofs.Booleans.{unless-true}
use Rattle.slotted_slots.specs.declared.error.Error.{Error}
use Rattle.slotted_slots.specs.declared.error.Error.TheVariants.{Failed}
use Rattle.slotted_slots.specs.Error.{IsShortage}
use Rattle.slotted_languages.proofs.HandedOn.{handed_err}
use Rattle.slotted_graph.specs.Extension.{ExtendsTo}
use Rattle.slotted_graph.proofs.Extending.{extends-itself, extends-then}
use Rattle.slotted_rules.specs.Applying.{AreModified, AreRefusedBy}
use Rattle.slotted_rules.specs.Counting.{RefusesCounted, RefusesRule}
use Rattle.slotted_rules.specs.WrittenLaws.{valid-later}
use Rattle.slotted_rules.proofs.AppliedRules.{not-failed, ok-well, shortage_of}
use Rattle.slotted_rules.proofs.Lowering.{later-lowers}
use Rattle.slotted_graph.proofs.Saying.{lowers-itself}
use Rattle.slotted_rules.specs.Counted.{BreaksTurns}
use Rattle.slotted_rules.proofs.CountedTurns.{no-turns, turn-added, turn-broken, turn-last}
use Rattle.slotted_rules.proofs.counted.take_counted.Goals as goal

-- no turn was refused for a failed graph
other : {R : Type 0} (refuses : R → Error → Type 0) (rules : List R) (e : Error) → (¬ (e ≡ Failed)) → (e ≡ Failed) ⊎ IsShortage e ⊎ AreRefusedBy refuses rules e → IsShortage e ⊎ AreRefusedBy refuses rules e
other refuses rules e not (inl failed) = absurd (not failed)
other refuses rules e not (inr r) = r

pub loop-alloc-init : goal.loop-alloc-init
loop-alloc-init g c = record {
  well = c.requires.well;
  extends = extends-itself c.args.graph.now;
  lowers = lowers-itself g.N.Analysis.codes g.N.Analysis.meaning g.met.N.Analysis.is_merge c.args.graph.now;
  within = omega (arith, ap length c.new-turns.ensures.items);
  turns = no-turns g.L.LanguageChildren.form g.C.Cond.answers c.args.rules.now (AreModified g.N.Analysis.codes g.N.Analysis.meaning g.N.Analysis.may_ask g.N.Analysis.modifies) c.args.turn_limit c.args.graph.now c.new-turns.result.items c.new-turns.ensures.items;
}

pub apply_counted-requires : goal.apply_counted-requires
apply_counted-requires g c = inr (λ k d l. valid-later g.L.LanguageChildren.form c.args.graph.now c.loop-alloc.graph _ c.loop-alloc.invariant.extends (c.requires.valid k d l))

pub returns-in_err-turn-clause-extends : goal.returns-in_err-turn-clause-extends
returns-in_err-turn-clause-extends g c = elim c.apply_counted.ensures.extends [
  | inl failed ↦ inl failed
  | inr more ↦ inr (extends-then c.args.graph.now c.loop-alloc.graph c.apply_counted.new.graph c.loop-alloc.invariant.extends more)
]

pub returns-in_err-turn-clause-err : goal.returns-in_err-turn-clause-err
returns-in_err-turn-clause-err g c =
    let refuses = RefusesRule g.L.LanguageChildren.form g.C.Cond.refuses in
    let e = c.in_err-turn.field-0.0 in
    handed_err c.from_residual.result e c.from_residual.ensures.1 (λ x. IsShortage x ⊎ AreRefusedBy refuses c.args.rules.now x)
    (other refuses c.args.rules.now e (not-failed c.apply_counted.result e c.in_err-turn.was c.loop-alloc.graph.failed c.loop-alloc.invariant.well c.apply_counted.ensures.failed)
    (subst (λ (r : Result _ Error). IfErr r (λ x. (x ≡ Failed) ⊎ IsShortage x ⊎ AreRefusedBy refuses c.args.rules.now x)) c.in_err-turn.was c.apply_counted.ensures.err))

pub returns-in_err-push-clause-extends : goal.returns-in_err-push-clause-extends
returns-in_err-push-clause-extends g c = elim c.apply_counted.ensures.extends [
  | inl failed ↦ inl failed
  | inr more ↦ inr (extends-then c.args.graph.now c.loop-alloc.graph c.apply_counted.new.graph c.loop-alloc.invariant.extends more)
]

pub returns-then-not-changed-clause-turns : goal.returns-then-not-changed-clause-turns
returns-then-not-changed-clause-turns g c =
    turn-last g.L.LanguageChildren.form g.C.Cond.answers c.args.rules.now (AreModified g.N.Analysis.codes g.N.Analysis.meaning g.N.Analysis.may_ask g.N.Analysis.modifies) c.args.turn_limit c.args.graph.now c.loop-alloc.turns.items c.push.new.self.items c.loop-alloc.graph c.apply_counted.new.graph c.in_ok-turn.turn
    c.loop-alloc.invariant.turns c.in_ok-turn.ensures.modified c.in_ok-turn.ensures.changed c.in_ok-push.ensures.items c.if-not-changed.true (omega (arith, c.loop-alloc-test.true, c.len.ensures))

pub returns-then-not-changed-clause-extends : goal.returns-then-not-changed-clause-extends
returns-then-not-changed-clause-extends g c = elim c.apply_counted.ensures.extends [
  | inl failed ↦ inl failed
  | inr more ↦ inr (extends-then c.args.graph.now c.loop-alloc.graph c.apply_counted.new.graph c.loop-alloc.invariant.extends more)
]

pub loop-alloc-preserved : goal.loop-alloc-preserved
loop-alloc-preserved g c =
    let h = c.apply_counted.new.graph in
    let well : h.failed ≡ false = ok-well _ h.failed c.apply_counted.result c.in_ok-turn.turn c.in_ok-turn.was c.apply_counted.ensures.fails.0 in
    let more : ExtendsTo c.loop-alloc.graph h = unless-true h.failed well c.apply_counted.ensures.extends in
    record {
      well = well;
      extends = extends-then c.args.graph.now c.loop-alloc.graph h c.loop-alloc.invariant.extends more;
      lowers = unless-true h.failed well (later-lowers g.N.Analysis.codes g.N.Analysis.meaning g.met.N.Analysis.is_merge c.args.graph.now c.loop-alloc.graph c.apply_counted.new.graph c.loop-alloc.invariant.extends c.loop-alloc.invariant.lowers c.apply_counted.ensures.lowers);
      within = omega (arith, c.loop-alloc-test.true, c.len.ensures, ap length c.in_ok-push.ensures.items, length-append c.loop-alloc.turns.items (c.in_ok-turn.turn ∷ []));
      turns = turn-added g.L.LanguageChildren.form g.C.Cond.answers c.args.rules.now (AreModified g.N.Analysis.codes g.N.Analysis.meaning g.N.Analysis.may_ask g.N.Analysis.modifies) c.args.turn_limit c.args.graph.now c.loop-alloc.turns.items c.push.new.self.items c.loop-alloc.graph h c.in_ok-turn.turn
          c.loop-alloc.invariant.turns c.in_ok-turn.ensures.modified c.in_ok-turn.ensures.changed c.in_ok-push.ensures.items c.if-not-changed.false;
    }

pub returns-in_err-turn-clause-lowers : goal.returns-in_err-turn-clause-lowers
returns-in_err-turn-clause-lowers g c = later-lowers g.N.Analysis.codes g.N.Analysis.meaning g.met.N.Analysis.is_merge c.args.graph.now c.loop-alloc.graph c.apply_counted.new.graph c.loop-alloc.invariant.extends c.loop-alloc.invariant.lowers c.apply_counted.ensures.lowers

pub returns-in_err-push-clause-lowers : goal.returns-in_err-push-clause-lowers
returns-in_err-push-clause-lowers g c = later-lowers g.N.Analysis.codes g.N.Analysis.meaning g.met.N.Analysis.is_merge c.args.graph.now c.loop-alloc.graph c.apply_counted.new.graph c.loop-alloc.invariant.extends c.loop-alloc.invariant.lowers c.apply_counted.ensures.lowers

pub returns-then-not-changed-clause-lowers : goal.returns-then-not-changed-clause-lowers
returns-then-not-changed-clause-lowers g c = later-lowers g.N.Analysis.codes g.N.Analysis.meaning g.met.N.Analysis.is_merge c.args.graph.now c.loop-alloc.graph c.apply_counted.new.graph c.loop-alloc.invariant.extends c.loop-alloc.invariant.lowers c.apply_counted.ensures.lowers

pub returns-in_err-turn-clause-refused : goal.returns-in_err-turn-clause-refused
returns-in_err-turn-clause-refused g c =
    let form = g.L.LanguageChildren.form in
    let holds = g.C.Cond.answers in
    let refuses = g.C.Cond.refuses in
    let after = AreModified g.N.Analysis.codes g.N.Analysis.meaning g.N.Analysis.may_ask g.N.Analysis.modifies in
    let e = c.in_err-turn.field-0.0 in
    let was = c.in_err-turn.was in
    let f = c.loop-alloc.graph in
    let h = c.apply_counted.new.graph in
    handed_err c.from_residual.result e c.from_residual.ensures.1 (λ x. IsShortage x ⊎ BreaksTurns form holds refuses c.args.rules.now after c.args.turn_limit c.args.graph.now h x)
    (turn-broken form holds c.args.rules.now after c.args.turn_limit c.args.graph.now refuses c.loop-alloc.turns.items f h c.loop-alloc.invariant.turns (omega (arith, c.loop-alloc-test.true, c.len.ensures)) e
    (λ failed. shortage_of c.apply_counted.result e was (not-failed c.apply_counted.result e was f.failed c.loop-alloc.invariant.well c.apply_counted.ensures.failed) (c.apply_counted.ensures.fails.0 failed))
    (subst (λ (r : Result _ Error). IfErr r (λ x. IsTrue h.failed ⊎ RefusesCounted form holds refuses c.args.rules.now f h x)) was c.apply_counted.ensures.refused))
