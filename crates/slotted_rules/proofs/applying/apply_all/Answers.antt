-- Each rule is applied in the graph that the ones before it left.
use Rattle.std.proofs.Common.{◌≡◌, ◌∙◌, List, [], ◌∷◌, ◌++◌, false, Option, Some, refl, ap, inl, inr, Result, IfErr, subst}
use Rattle.std.specs.Prelude.{option_to_list, ◌⊎◌, IsTrue}
use Rattle.slotted_lists.proofs.Booleans.{unless-true}
use Rattle.slotted_model_rules.specs.Runners.{none_applied}
use Rattle.slotted_graph.proofs.Extending.{extends-itself, extends-then}
use Rattle.slotted_graph.proofs.Saying.{lowers-itself}
use Rattle.slotted_rules.specs.Applying.{AreRefusedBy, StopsApplying}
use Rattle.slotted_languages.proofs.HandedOn.{handed_err}
use Rattle.slotted_slots.specs.declared.error.Error.{Error}
use Rattle.slotted_slots.specs.declared.error.Error.TheVariants.{Failed}
use Rattle.slotted_slots.specs.Error.{IsShortage}
use Rattle.slotted_rules.proofs.Lowering.{later-lowers}
use Rattle.slotted_rules.proofs.AppliedRules.{applied-more, ok-well, applying-stops, not-failed, refused-one, shortage_of}
use Rattle.slotted_rules.proofs.applying.apply_all.Goals as goal

popped : {F : Type 0} (old new : List F) (o : Option F) (x : F) → old ≡ option_to_list o ++ new → o ≡ Some x → old ≡ x ∷ new
popped old new o x items is = items ∙ ap (λ p. option_to_list p ++ new) is

pub loop-rule-init : goal.loop-rule-init
loop-rule-init g c = record {
  so_far = record {
    well = c.requires.well;
    extends = extends-itself c.args.graph.now;
    done = [];
    whole = refl;
    applied = none_applied;
    can_apply = c.requires.can;
  };
  lowers = lowers-itself g.N.Analysis.codes g.N.Analysis.meaning g.met.N.Analysis.is_merge c.args.graph.now;
}

pub returns-in_err-apply-in-Some-clause-extends : goal.returns-in_err-apply-in-Some-clause-extends
returns-in_err-apply-in-Some-clause-extends g c = elim c.apply.ensures.extends [
  | inl failed ↦ inl failed
  | inr more ↦ inr (extends-then c.args.graph.now c.loop-rule.graph c.apply.new.graph c.loop-rule.invariant.so_far.extends more)
]

pub loop-rule-preserved : goal.loop-rule-preserved
loop-rule-preserved g c =
    let h = c.apply.new.graph in
    let well : h.failed ≡ false = ok-well _ h.failed c.apply.result c.in_ok-apply-in-Some.field-0 c.in_ok-apply-in-Some.was c.apply.ensures.fails.0 in
    record {
      so_far = applied-more g.R.RewriteT.applies g.R.RewriteT.can_apply c.args.rules.now c.loop-rule.rule-index c.rule-item.result c.loop-rule-test.true c.rule-item.is c.args.found.items c.loop-rule.left.items
          c.pop_front.new.self.items c.in-Some.next (popped c.loop-rule.left.items c.pop_front.new.self.items c.pop_front.result c.in-Some.next c.pop_front.ensures.items c.in-Some.is) c.args.graph.now c.loop-rule.graph c.loop-rule.invariant.so_far
          g.met.R.RewriteT.can_apply_stays h c.in_ok-apply-in-Some.ensures.ok (unless-true h.failed well c.apply.ensures.extends) well;
      lowers = unless-true h.failed well (later-lowers g.N.Analysis.codes g.N.Analysis.meaning g.met.N.Analysis.is_merge c.args.graph.now c.loop-rule.graph c.apply.new.graph c.loop-rule.invariant.so_far.extends c.loop-rule.invariant.lowers c.apply.ensures.lowers);
    }

pub returns-in_err-apply-in-Some-clause-lowers : goal.returns-in_err-apply-in-Some-clause-lowers
returns-in_err-apply-in-Some-clause-lowers g c = later-lowers g.N.Analysis.codes g.N.Analysis.meaning g.met.N.Analysis.is_merge c.args.graph.now c.loop-rule.graph c.apply.new.graph c.loop-rule.invariant.so_far.extends c.loop-rule.invariant.lowers c.apply.ensures.lowers

pub returns-clause-lowers : goal.returns-clause-lowers
returns-clause-lowers g c = inr c.loop-rule.invariant.lowers

pub returns-in_err-apply-in-Some-clause-refused : goal.returns-in_err-apply-in-Some-clause-refused
returns-in_err-apply-in-Some-clause-refused g c =
    let e = c.in_err-apply-in-Some.field-0.0 in
    let applies = g.R.RewriteT.applies in
    let breaks_off = g.R.RewriteT.breaks_off in
    let f = c.loop-rule.graph in
    let h = c.apply.new.graph in
    let so_far = c.loop-rule.invariant.so_far in
    let new = c.pop_front.new.self.items in
    let x = c.in-Some.next in
    let was = c.in_err-apply-in-Some.was in
    handed_err c.from_residual.result e c.from_residual.ensures.1 (λ y. IsShortage y ⊎ StopsApplying applies breaks_off c.args.rules.now c.args.found.items c.args.graph.now h y)
    (applying-stops applies breaks_off c.args.rules.now c.loop-rule.rule-index c.rule-item.result c.loop-rule-test.true c.rule-item.is c.args.found.items so_far.done c.loop-rule.left.items new x so_far.whole
    (popped c.loop-rule.left.items new c.pop_front.result x c.pop_front.ensures.items c.in-Some.is) c.args.graph.now f h so_far.applied e
    (λ failed. shortage_of c.apply.result e was (not-failed c.apply.result e was f.failed so_far.well c.apply.ensures.failed) (c.apply.ensures.fails.0 failed))
    (subst (λ (r : Result _ Error). IfErr r (λ y. IsTrue h.failed ⊎ breaks_off c.rule-item.result x f h y)) was c.apply.ensures.left))

pub returns-in_err-apply-in-Some-clause-err : goal.returns-in_err-apply-in-Some-clause-err
returns-in_err-apply-in-Some-clause-err g c =
    let e = c.in_err-apply-in-Some.field-0.0 in
    let was = c.in_err-apply-in-Some.was in
    handed_err c.from_residual.result e c.from_residual.ensures.1 (λ x. IsShortage x ⊎ AreRefusedBy g.R.RewriteT.refuses c.args.rules.now x)
    (refused-one g.R.RewriteT.refuses c.args.rules.now c.loop-rule.rule-index c.rule-item.result c.loop-rule-test.true c.rule-item.is e
    (not-failed c.apply.result e was c.loop-rule.graph.failed c.loop-rule.invariant.so_far.well c.apply.ensures.failed)
    (subst (λ (r : Result _ Error). IfErr r (λ x. (x ≡ Failed) ⊎ IsShortage x ⊎ g.R.RewriteT.refuses c.rule-item.result x)) was c.apply.ensures.err))
