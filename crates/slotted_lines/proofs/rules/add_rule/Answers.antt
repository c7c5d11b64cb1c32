use Rattle.std.proofs.Common.{[], ◌∙◌, refl, subst, sym}
use Rattle.slotted_languages.proofs.HandedOn.{handed_err}
use Rattle.slotted_lines.specs.AnsweredIn.{IsRuleRefused}
use Rattle.slotted_lines.specs.States.{AreSearchable, state_of}
use Rattle.slotted_lines.proofs.Telling.{rule-refused}
use Rattle.slotted_lines.proofs.Knowing.{kept-rules, one_more-rule}
use Rattle.slotted_lines.proofs.rules.add_rule.Goals as goal

pub returns-in_err-rule-clause-answers : goal.returns-in_err-rule-clause-answers
returns-in_err-rule-clause-answers g c =
    let form = g.L.LanguageChildren.form in
    let read = g.L.LanguageChildren.read in
    rule-refused read (λ _. []) form (state_of c.args.session.now) (record { graph = c.read_rule.new.graph; rules = c.args.session.now.rules.items }) c.args.name.now c.args.left.now c.args.right.now c.from_residual.result c.from_residual.ensures.0
    (handed_err c.from_residual.result c.in_err-rule.field-0.0 c.from_residual.ensures.1 (IsRuleRefused form read c.args.session.now.graph c.read_rule.new.graph c.args.left.now c.args.right.now) c.in_err-rule.ensures.err) refl

pub returns-in_err-rule-clause-valid : goal.returns-in_err-rule-clause-valid
returns-in_err-rule-clause-valid g c =
    kept-rules g.L.LanguageChildren.form c.args.session.now.graph c.read_rule.new.graph c.args.session.now.rules.items c.in_err-rule.ensures.more (λ f. c.in_err-rule.ensures.failed ∙ f) c.requires

pub returns-in_err-push-clause-valid : goal.returns-in_err-push-clause-valid
returns-in_err-push-clause-valid g c =
    let form = g.L.LanguageChildren.form in
    subst (λ l. AreSearchable form (record { graph = c.read_rule.new.graph; rules = l })) (sym c.in_err-push.ensures.items)
    (kept-rules form c.args.session.now.graph c.read_rule.new.graph c.args.session.now.rules.items c.in_ok-rule.ensures.more (λ f. c.in_ok-rule.ensures.failed ∙ f) c.requires)

pub returns-clause-valid : goal.returns-clause-valid
returns-clause-valid g c =
    let form = g.L.LanguageChildren.form in
    subst (λ l. AreSearchable form (record { graph = c.read_rule.new.graph; rules = l })) (sym c.in_ok-push.ensures.items)
    (one_more-rule form c.read_rule.new.graph c.args.session.now.rules.items c.in_ok-rule.rule
    (kept-rules form c.args.session.now.graph c.read_rule.new.graph c.args.session.now.rules.items c.in_ok-rule.ensures.more (λ f. c.in_ok-rule.ensures.failed ∙ f) c.requires)
    c.in_ok-rule.ensures.searched)
