use Rattle.std.proofs.Common.{inl}
use Rattle.slotted_patterns.specs.View.{tree_of}
use Rattle.slotted_classes.specs.Kept.{text_bytes}
use Rattle.slotted_rule_patterns.specs.Values.{values_of}
use Rattle.slotted_rule_patterns.specs.Variables.{has_value}
use Rattle.slotted_rule_patterns.proofs.KnownVariables.{known-none_outside}
use Rattle.slotted_rules.proofs.Answering.{if-err-mapped}
use Rattle.slotted_rules.proofs.Carrying.{left-carries}
use Rattle.slotted_rules.specs.Uniting.{UnitesInstances}
use Rattle.slotted_rules.proofs.Refusing.{left-extends}
use Rattle.slotted_rules.proofs.uniting.union_listed.Goals as goal

pub unite_listed-answer-requires-clause-given_left : goal.unite_listed-answer-requires-clause-given_left
unite_listed-answer-requires-clause-given_left g c = known-none_outside (has_value (values_of c.args.subst.now)) (tree_of g.L.LanguageChildren.form c.args.a.now.pattern.now) c.requires.tested.0.1

pub unite_listed-answer-requires-clause-given_right : goal.unite_listed-answer-requires-clause-given_right
unite_listed-answer-requires-clause-given_right g c = known-none_outside (has_value (values_of c.args.subst.now)) (tree_of g.L.LanguageChildren.form c.args.b.now.pattern.now) c.requires.tested.1.1

pub returns-clause-extends : goal.returns-clause-extends
returns-clause-extends g c =
    let s = values_of c.args.subst.now in
    let p = tree_of g.L.LanguageChildren.form c.args.a.now.pattern.now in
    let q = tree_of g.L.LanguageChildren.form c.args.b.now.pattern.now in
    let g0 = c.args.graph.now in
    let i = c.unite_listed-answer.new.graph in
    left-extends g0 i c.fail_if_short.new.graph (λ e. ⊥) (λ e k. absurd k) c.unite_listed-answer.result (UnitesInstances g0 i s p q (text_bytes c.args.text)) (λ y u. u.extends)
    c.unite_listed-answer.ensures.unites (if-err-mapped c.unite_listed-answer.result c.unite_listed-answer.ensures.only (λ e k. inl k)) c.fail_if_short.ensures.short c.fail_if_short.ensures.other

pub returns-clause-carries : goal.returns-clause-carries
returns-clause-carries g c = left-carries g.N.Analysis.codes g.N.Analysis.meaning c.args.graph.now c.unite_listed-answer.new.graph c.fail_if_short.new.graph c.unite_listed-answer.ensures.carries c.fail_if_short.ensures.left
