-- The parts that the code tells, as those of the definitions.
use Rattle.std.specs.Prelude.{◌≡◌, List, map, Option, None}
use Rattle.slotted_rule_texts.specs.Asked.{Condition, Rule, RuleAsked, asks, no_name, no_sign, no_condition}
use Rattle.slotted_rule_texts.specs.declared.rule_text.SlotCondition.{SlotCondition}
use Rattle.slotted_rule_texts.specs.declared.rule_text.RuleText.{RuleText}
use Rattle.slotted_rule_texts.specs.declared.error.RuleTextError.{RuleTextError}
use Rattle.slotted_rule_texts.specs.declared.error.RuleTextError.TheVariants.{OutOfMemory, NoName, NoSign, NoCondition}

abbrev pub told_condition : SlotCondition → Condition
told_condition c = record { slot = c.slot.now; variable = c.variable.now; occurs = c.occurs }

abbrev pub told_rule : RuleText → Rule
told_rule r = record { name = r.name.now; left = r.left.now; right = r.right.now; both = r.both; conditions = map told_condition r.conditions.items }

-- the rule tells what is asked
abbrev pub Tells : RuleAsked → RuleText → Type 0
Tells asked r = asked ≡ asks (told_rule r)

-- the error names the part that is wrong. Refused memory says nothing of the text
abbrev pub IsRefused : RuleAsked → RuleTextError → Type 0
IsRefused asked OutOfMemory = Unit
IsRefused asked NoName = asked ≡ no_name
IsRefused asked NoSign = asked ≡ no_sign
IsRefused asked NoCondition = asked ≡ no_condition

-- one of the conditions is none, or memory was refused
abbrev pub AreRefused : Option (List Condition) → RuleTextError → Type 0
AreRefused asked OutOfMemory = Unit
AreRefused asked NoCondition = asked ≡ None
AreRefused asked NoName = ⊥
AreRefused asked NoSign = ⊥
