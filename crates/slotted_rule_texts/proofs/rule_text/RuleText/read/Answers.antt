use Rattle.std.proofs.Common.{ap, sym, ◌∙◌, subst, IfOk, IfErr}
use Rattle.std.specs.Prelude.{codes}
use Rattle.slotted_lists.proofs.Splitting.{parts_around-none, split}
use Rattle.slotted_rule_texts.specs.Asked.{RuleAsked, rule_of_parts}
use Rattle.slotted_rule_texts.specs.Told.{Tells, IsRefused}
use Rattle.slotted_rule_texts.proofs.Asking.{rule_is}
use Rattle.slotted_rule_texts.proofs.rule_text.RuleText.read.Goals as goal

pub returns-in-Some-clause-ok : goal.returns-in-Some-clause-ok
returns-in-Some-clause-ok c =
    let text = c.args.text.now in
    let parts = split (codes ": ") text _ _ c.in-Some.ensures.cases in
    subst (λ (a : RuleAsked). IfOk c.read_named.result (Tells a)) (sym (ap rule_of_parts parts) ∙ rule_is text) c.read_named.ensures.ok

pub returns-in-Some-clause-err : goal.returns-in-Some-clause-err
returns-in-Some-clause-err c =
    let text = c.args.text.now in
    let parts = split (codes ": ") text _ _ c.in-Some.ensures.cases in
    subst (λ (a : RuleAsked). IfErr c.read_named.result (IsRefused a)) (sym (ap rule_of_parts parts) ∙ rule_is text) c.read_named.ensures.err

pub returns-in-None-clause-err : goal.returns-in-None-clause-err
returns-in-None-clause-err c =
    let text = c.args.text.now in
    let none = parts_around-none (codes ": ") text c.in-None.ensures.cases in
    sym (rule_is text) ∙ ap rule_of_parts none
