use Rattle.std.proofs.Common.{sym, ◌∙◌}
use Rattle.slotted_rule_texts.proofs.Asking.{condition_of_names}
use Rattle.slotted_rule_texts.proofs.reading.named_condition.Goals as goal

pub returns-then-is_name-2 : goal.returns-then-is_name-2
returns-then-is_name-2 c =
    let slot = sym c.is_name.ensures ∙ c.if-is_name.true in
    let variable = sym c.is_name-then-is_name.ensures ∙ c.if-is_name-2.true in
    condition_of_names c.args.slot.now c.args.variable.now c.args.occurs slot variable
