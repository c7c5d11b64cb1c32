-- What conditions of one type answer.
--     outcome c s         yes or no, or the variable without a value at which the condition is refused
--     AnswersTree c s y   the answer
--     TreeRefuses c s e   the refusal
use Rattle.std.specs.Prelude.{◌≡◌, Bool, true, false, cond, not, Ok, Err, string_bytes}
use Rattle.slotted_slots.specs.declared.error.Error.{Error}
use Rattle.slotted_slots.specs.declared.error.Error.TheVariants.{Failed}
use Rattle.slotted_model_rules.specs.Conditions.{Values}
use Rattle.slotted_model_rules.specs.Matcher.{value_at}
use Rattle.slotted_rules.specs.Asking.{IsMissing, Outcome, slot_outcome}
use Rattle.slotted_rules.specs.declared.condition_tree.CondTree.{CondTree, fold-CondTree}
use Rattle.slotted_rules.specs.declared.condition_tree.CondTree.TheOpen.{CondTree-F}

-- the second is looked at only where the first leaves it open
abbrev pub either_outcome : Outcome → Outcome → Outcome
either_outcome (Err v) second = Err v
either_outcome (Ok b) second = cond b (Ok true) second

abbrev pub both_outcome : Outcome → Outcome → Outcome
both_outcome (Err v) second = Err v
both_outcome (Ok b) second = cond b second (Ok false)

abbrev pub opposite_outcome : Outcome → Outcome
opposite_outcome (Err v) = Err v
opposite_outcome (Ok b) = Ok (not b)

-- one level, with what is below already answered
abbrev pub outcome_step : Values → CondTree-F Outcome → Outcome
outcome_step s CondTree-F.Always = Ok true
outcome_step s (CondTree-F.SlotFreeIn c) = slot_outcome c.slot (string_bytes c.variable) (value_at s (string_bytes c.variable))
outcome_step s (CondTree-F.Or first second) = either_outcome first.value second.value
outcome_step s (CondTree-F.And first second) = both_outcome first.value second.value
outcome_step s (CondTree-F.Not c) = opposite_outcome c.value

abbrev pub outcome : CondTree → Values → Outcome
outcome c s = fold-CondTree Outcome (outcome_step s) c

abbrev pub AnswersTree : CondTree → Values → Bool → Type 0
AnswersTree c s y = outcome c s ≡ Ok y

-- the variable of the outcome is named, or memory was lacking for that
abbrev pub RefusesAs : Outcome → Error → Type 0
RefusesAs (Ok b) e = ⊥
RefusesAs (Err v) e = IsMissing v e

abbrev pub TreeRefuses : CondTree → Values → Error → Type 0
TreeRefuses c s e = RefusesAs (outcome c s) e

refuses-never_failed : (o : Outcome) → ¬ RefusesAs o Failed
refuses-never_failed (Ok b) r = r
refuses-never_failed (Err v) r = r

pub tree-never_failed : (c : CondTree) (s : Values) → ¬ TreeRefuses c s Failed
tree-never_failed c s r = refuses-never_failed (outcome c s) r
