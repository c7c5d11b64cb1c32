use Rattle.std.proofs.Common.{ap, sym, ◌∙◌, subst, Some, [], IfOk, IfErr}
use Rattle.std.specs.Prelude.{codes}
use Rattle.slotted_lists.proofs.Splitting.{parts_around-none, split}
use Rattle.slotted_rule_texts.specs.Asked.{RuleAsked, conditional_or, sides_asked}
use Rattle.slotted_rule_texts.specs.Told.{Tells, IsRefused}
use Rattle.slotted_rule_texts.proofs.Asking.{named_empty, named_some, sign_refused}
use Rattle.slotted_rule_texts.proofs.reading.read_named.Goals as goal

pub returns-then-is_empty-clause-err : goal.returns-then-is_empty-clause-err
returns-then-is_empty-clause-err c = named_empty c.args.name.now c.args.rest.now (sym c.is_empty.ensures ∙ c.if-is_empty.true)

pub returns-in-Some-clause-ok : goal.returns-in-Some-clause-ok
returns-in-Some-clause-ok c =
    let rest = c.args.rest.now in
    let name = c.args.name.now in
    let parts = split (codes " if $") rest _ _ c.in-Some.ensures.cases in
    let named = sym (ap (λ p. conditional_or name p rest) parts) ∙ named_some name rest (sym c.is_empty.ensures ∙ c.if-is_empty.false) in
    subst (λ (a : RuleAsked). IfOk c.read_conditional.result (Tells a)) named c.read_conditional.ensures.ok

pub returns-in-Some-clause-err : goal.returns-in-Some-clause-err
returns-in-Some-clause-err c =
    let rest = c.args.rest.now in
    let name = c.args.name.now in
    let parts = split (codes " if $") rest _ _ c.in-Some.ensures.cases in
    let named = sym (ap (λ p. conditional_or name p rest) parts) ∙ named_some name rest (sym c.is_empty.ensures ∙ c.if-is_empty.false) in
    subst (λ (a : RuleAsked). IfErr c.read_conditional.result (IsRefused a)) named c.read_conditional.ensures.err

pub returns-in-None-clause-ok : goal.returns-in-None-clause-ok
returns-in-None-clause-ok c =
    let rest = c.args.rest.now in
    let name = c.args.name.now in
    let none = parts_around-none (codes " if $") rest c.in-None.ensures.cases in
    let named = sym (ap (λ p. conditional_or name p rest) none) ∙ named_some name rest (sym c.is_empty.ensures ∙ c.if-is_empty.false) in
    subst (λ (a : RuleAsked). IfOk c.read_sides.result (Tells a)) named c.read_sides.ensures.ok

pub returns-in-None-clause-err : goal.returns-in-None-clause-err
returns-in-None-clause-err c =
    let rest = c.args.rest.now in
    let name = c.args.name.now in
    let none = parts_around-none (codes " if $") rest c.in-None.ensures.cases in
    let named = sym (ap (λ p. conditional_or name p rest) none) ∙ named_some name rest (sym c.is_empty.ensures ∙ c.if-is_empty.false) in
    subst (λ (a : RuleAsked). IfErr c.read_sides.result (IsRefused a)) named
    (sign_refused name (sides_asked rest) (Some []) c.read_sides.result c.read_sides.ensures.err)
