-- Each rule is applied in the graph that the ones before it left, and counted.
use Rattle.std.proofs.Common.{◌≡◌, ◌∙◌, ◌++◌, ◌∷◌, [], ℕ, List, Option, Some, false, Result, IfErr, refl, ap, sym, subst, inl, inr}
use Rattle.std.specs.Prelude.{◌⊎◌, IsTrue, map, option_to_list}
use Rattle.slotted_lists.proofs.Booleans.{unless-true}
use Rattle.slotted_slots.specs.declared.error.Error.{Error}
use Rattle.slotted_slots.specs.declared.error.Error.TheVariants.{Failed}
use Rattle.slotted_slots.specs.Error.{IsShortage}
use Rattle.slotted_languages.proofs.HandedOn.{handed_err}
use Rattle.slotted_model_rules.specs.Conditions.{Values}
use Rattle.slotted_graph.proofs.Extending.{extends-then}
use Rattle.slotted_rules.specs.Applying.{AreRefusedBy, StopsApplying}
use Rattle.slotted_rules.specs.Counting.{AppliesRule, BreaksRule, CanApplyRule, RefusesRule, UnitesRule}
use Rattle.slotted_rules.specs.Written.{CanBeSearched}
use Rattle.slotted_rules.specs.WrittenLaws.{apply-later, valid-later}
use Rattle.slotted_patterns.specs.View.{tree_of}
use Rattle.slotted_graph.proofs.Saying.{lowers-itself}
use Rattle.slotted_rules.proofs.Lowering.{later-lowers}
use Rattle.slotted_rules.proofs.AppliedRules.{applying-stops, not-failed, ok-well, refused-one, shortage_of}
use Rattle.slotted_rules.proofs.CountedRules.{applied-keys, counts-more, done-can, done-more, done-whole, none-done}
use Rattle.slotted_rules.proofs.counting.count_all.Goals as goal

popped : {F : Type 0} (old new : List F) (o : Option F) (x : F) → old ≡ option_to_list o ++ new → o ≡ Some x → old ≡ x ∷ new
popped old new o x items is = items ∙ ap (λ p. option_to_list p ++ new) is

pub loop-rule-init : goal.loop-rule-init
loop-rule-init g c =
    let form = g.L.LanguageChildren.form in
    ([], none-done (λ k. k.0) (UnitesRule form g.C.Cond.answers) (CanApplyRule form) c.args.rules.now c.args.found.items c.args.graph.now c.requires.well c.requires.can, c.requires.none, lowers-itself g.N.Analysis.codes g.N.Analysis.meaning g.met.N.Analysis.is_merge c.args.graph.now)

pub count_one-requires-clause-valid : goal.count_one-requires-clause-valid
count_one-requires-clause-valid g c =
    let form = g.L.LanguageChildren.form in
    valid-later form c.args.graph.now c.loop-rule.graph c.rule-item.result c.loop-rule.invariant.1.extends
    (subst (CanBeSearched form c.args.graph.now.table) (sym c.rule-item.is) (c.requires.valid c.loop-rule.rule-index c.rule-item.result c.loop-rule-test.true))

pub count_one-requires-clause-found : goal.count_one-requires-clause-found
count_one-requires-clause-found g c =
    let form = g.L.LanguageChildren.form in
    done-can (λ (k : List Values × ℕ). k.0) (UnitesRule form g.C.Cond.answers) (CanApplyRule form) c.args.rules.now c.loop-rule.rule-index c.rule-item.result c.loop-rule-test.true c.rule-item.is c.args.found.items c.loop-rule.left.items
    c.pop_front.new.self.items (c.in-Some.next, 0) (popped c.loop-rule.left.items c.pop_front.new.self.items c.pop_front.result c.in-Some.next c.pop_front.ensures.items c.in-Some.is) c.loop-rule.invariant.0 c.args.graph.now c.loop-rule.graph
    c.loop-rule.invariant.1

pub returns-in_err-count_one-in-Some-clause-extends : goal.returns-in_err-count_one-in-Some-clause-extends
returns-in_err-count_one-in-Some-clause-extends g c = elim c.count_one.ensures.extends [
  | inl failed ↦ inl failed
  | inr more ↦ inr (extends-then c.args.graph.now c.loop-rule.graph c.count_one.new.graph c.loop-rule.invariant.1.extends more)
]

pub returns-in_err-push-in-Some-clause-extends : goal.returns-in_err-push-in-Some-clause-extends
returns-in_err-push-in-Some-clause-extends g c = elim c.count_one.ensures.extends [
  | inl failed ↦ inl failed
  | inr more ↦ inr (extends-then c.args.graph.now c.loop-rule.graph c.count_one.new.graph c.loop-rule.invariant.1.extends more)
]

pub returns-in_err-count_one-in-Some-clause-err : goal.returns-in_err-count_one-in-Some-clause-err
returns-in_err-count_one-in-Some-clause-err g c =
    let refuses = RefusesRule g.L.LanguageChildren.form g.C.Cond.refuses in
    let e = c.in_err-count_one-in-Some.field-0.0 in
    handed_err c.from_residual.result e c.from_residual.ensures.1 (λ x. IsShortage x ⊎ AreRefusedBy refuses c.args.rules.now x)
    (refused-one refuses c.args.rules.now c.loop-rule.rule-index c.rule-item.result c.loop-rule-test.true c.rule-item.is e
    (not-failed c.count_one.result e c.in_err-count_one-in-Some.was c.loop-rule.graph.failed c.loop-rule.invariant.1.well c.count_one.ensures.failed)
    (subst (λ (r : Result _ Error). IfErr r (λ x. (x ≡ Failed) ⊎ IsShortage x ⊎ refuses c.rule-item.result x)) c.in_err-count_one-in-Some.was c.count_one.ensures.err))

pub loop-rule-preserved : goal.loop-rule-preserved
loop-rule-preserved g c =
    let form = g.L.LanguageChildren.form in
    let h = c.count_one.new.graph in
    let told = c.in_ok-count_one-in-Some.field-0 in
    let well : h.failed ≡ false = ok-well _ h.failed c.count_one.result told c.in_ok-count_one-in-Some.was c.count_one.ensures.fails in
    let k : List Values × ℕ = (c.in-Some.next, told.united) in (
      c.loop-rule.invariant.0 ++ k ∷ [],
      done-more (λ (p : List Values × ℕ). p.0) (UnitesRule form g.C.Cond.answers) (CanApplyRule form) c.args.rules.now c.loop-rule.rule-index c.rule-item.result c.loop-rule-test.true c.rule-item.is c.args.found.items c.loop-rule.left.items
          c.pop_front.new.self.items k (popped c.loop-rule.left.items c.pop_front.new.self.items c.pop_front.result c.in-Some.next c.pop_front.ensures.items c.in-Some.is) c.loop-rule.invariant.0 c.args.graph.now c.loop-rule.graph
          c.loop-rule.invariant.1 (λ r found a b e can. apply-later (tree_of form r.left) found a b e can) h c.in_ok-count_one-in-Some.ensures.ok.1 (unless-true h.failed well c.count_one.ensures.extends) well,
      counts-more c.loop-rule.counts.items c.push.new.self.items c.loop-rule.invariant.0 k told c.loop-rule.invariant.2 c.in_ok-count_one-in-Some.ensures.ok.0 refl c.in_ok-push-in-Some.ensures.items,
      unless-true h.failed well (later-lowers g.N.Analysis.codes g.N.Analysis.meaning g.met.N.Analysis.is_merge c.args.graph.now c.loop-rule.graph c.count_one.new.graph c.loop-rule.invariant.1.extends c.loop-rule.invariant.3 c.count_one.ensures.lowers),
    )

pub returns-clause-ok : goal.returns-clause-ok
returns-clause-ok g c =
    let form = g.L.LanguageChildren.form in
    let whole = done-whole (λ (p : List Values × ℕ). p.0) (UnitesRule form g.C.Cond.answers) (CanApplyRule form) c.args.rules.now c.loop-rule.rule-index c.loop-rule-test.false c.args.found.items c.loop-rule.left.items c.loop-rule.invariant.0
    c.args.graph.now c.loop-rule.graph c.loop-rule.invariant.1 in
    (c.loop-rule.invariant.0, whole.0, whole.1, c.loop-rule.invariant.2)

pub returns-in_err-count_one-in-Some-clause-lowers : goal.returns-in_err-count_one-in-Some-clause-lowers
returns-in_err-count_one-in-Some-clause-lowers g c = later-lowers g.N.Analysis.codes g.N.Analysis.meaning g.met.N.Analysis.is_merge c.args.graph.now c.loop-rule.graph c.count_one.new.graph c.loop-rule.invariant.1.extends c.loop-rule.invariant.3 c.count_one.ensures.lowers

pub returns-in_err-push-in-Some-clause-lowers : goal.returns-in_err-push-in-Some-clause-lowers
returns-in_err-push-in-Some-clause-lowers g c = later-lowers g.N.Analysis.codes g.N.Analysis.meaning g.met.N.Analysis.is_merge c.args.graph.now c.loop-rule.graph c.count_one.new.graph c.loop-rule.invariant.1.extends c.loop-rule.invariant.3 c.count_one.ensures.lowers

pub returns-clause-lowers : goal.returns-clause-lowers
returns-clause-lowers g c = inr c.loop-rule.invariant.3

pub returns-in_err-count_one-in-Some-clause-refused : goal.returns-in_err-count_one-in-Some-clause-refused
returns-in_err-count_one-in-Some-clause-refused g c =
    let form = g.L.LanguageChildren.form in
    let holds = g.C.Cond.answers in
    let breaks = BreaksRule form holds g.C.Cond.refuses in
    let e = c.in_err-count_one-in-Some.field-0.0 in
    let was = c.in_err-count_one-in-Some.was in
    let f = c.loop-rule.graph in
    let h = c.count_one.new.graph in
    let done = c.loop-rule.invariant.0 in
    let so_far = c.loop-rule.invariant.1 in
    let new = c.pop_front.new.self.items in
    let x = c.in-Some.next in
    handed_err c.from_residual.result e c.from_residual.ensures.1 (λ y. IsShortage y ⊎ StopsApplying (AppliesRule form holds) breaks c.args.rules.now c.args.found.items c.args.graph.now h y)
    (applying-stops (AppliesRule form holds) breaks c.args.rules.now c.loop-rule.rule-index c.rule-item.result c.loop-rule-test.true c.rule-item.is c.args.found.items (map (λ k. k.0) done) c.loop-rule.left.items new x so_far.whole
    (popped c.loop-rule.left.items new c.pop_front.result x c.pop_front.ensures.items c.in-Some.is) c.args.graph.now f h
    (applied-keys (λ (k : List Values × ℕ). k.0) (UnitesRule form holds) (AppliesRule form holds) (λ r k a b united. united.0) so_far.applied) e
    (λ failed. shortage_of c.count_one.result e was (not-failed c.count_one.result e was f.failed so_far.well c.count_one.ensures.failed) (c.count_one.ensures.fails failed))
    (subst (λ (r : Result _ Error). IfErr r (λ y. IsTrue h.failed ⊎ breaks c.rule-item.result x f h y)) was c.count_one.ensures.left))
