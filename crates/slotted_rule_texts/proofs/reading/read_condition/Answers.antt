use Rattle.std.proofs.Common.{ap, sym, ◌∙◌}
use Rattle.std.specs.Prelude.{codes}
use Rattle.slotted_lists.proofs.Splitting.{parts_around-none, split}
use Rattle.slotted_rule_texts.specs.Asked.{condition_by}
use Rattle.slotted_rule_texts.specs.Parts.{parts_around}
use Rattle.slotted_rule_texts.proofs.Asking.{condition_is}
use Rattle.slotted_rule_texts.proofs.reading.read_condition.Goals as goal

pub returns-in-Some : goal.returns-in-Some
returns-in-Some c =
    let text = c.args.text.now in
    let names = split (codes " not in ?") text _ _ c.in-Some.ensures.cases in
    c.named_condition.ensures ∙ (sym (ap (λ p. condition_by p (parts_around (codes " in ?") text)) names) ∙ condition_is text)

pub returns-in-Some-split_once : goal.returns-in-Some-split_once
returns-in-Some-split_once c =
    let text = c.args.text.now in
    let none = parts_around-none (codes " not in ?") text c.in_default.ensures.cases in
    let names = split (codes " in ?") text _ _ c.in-Some-split_once.ensures.cases in
    c.named_condition-in-Some-split_once.ensures ∙ (sym (λ i. condition_by (none i) (names i)) ∙ condition_is text)

pub returns-in-None : goal.returns-in-None
returns-in-None c =
    let text = c.args.text.now in
    let none = parts_around-none (codes " not in ?") text c.in_default.ensures.cases in
    let neither = parts_around-none (codes " in ?") text c.in-None.ensures.cases in
    sym (λ i. condition_by (none i) (neither i)) ∙ condition_is text
