-- What the conditions of a workspace's rules answer.
--     AnswersRule form c s g y   the answer: that of the condition that was read, or, of a sparing rule, that of both
--     RuleRefuses c s e          the refusal
--     rule_reads c               what the condition reads
use Rattle.std.specs.Prelude.{◌⊎◌, Bool, List, true}
use Rattle.slotted_slots.specs.declared.error.Error.{Error}
use Rattle.slotted_slots.specs.declared.error.Error.TheVariants.{Failed}
use Rattle.slotted_slots.specs.Error.{IsOutOfMemory}
use Rattle.slotted_nodes.specs.Form.{Form}
use Rattle.slotted_patterns.specs.View.{tree_of}
use Rattle.slotted_model_rules.specs.Conditions.{Values}
use Rattle.slotted_graph.specs.Graph.{Graph}
use Rattle.slotted_rules.specs.Asking.{IsOneAnswer, outcome-one}
use Rattle.slotted_rules.specs.Reading.{ReadName, tree_reads}
use Rattle.slotted_rules.specs.TreeAnswers.{AnswersTree, TreeRefuses, outcome, tree-never_failed}
use Rattle.slotted_rules.specs.Unless.{SaysUnless, memory-never_failed, unless-one}
use Rattle.slotted_workspace.specs.declared.sparing.RuleCondition.{RuleCondition}
use Rattle.slotted_workspace.specs.declared.sparing.RuleCondition.TheVariants.{Plain, Sparing}

abbrev pub AnswersRule : {L : Type 0} → (L → Form) → RuleCondition L → Values → Graph → Bool → Type 0
AnswersRule form (Plain c) s g = AnswersTree c s
AnswersRule form (Sparing u) s g = SaysUnless (AnswersTree u.condition s) g s (tree_of form u.left) (tree_of form u.right)

-- a sparing rule may also lack memory for what it looks up
abbrev pub RuleRefuses : {L : Type 0} → RuleCondition L → Values → Error → Type 0
RuleRefuses (Plain c) s e = TreeRefuses c s e
RuleRefuses (Sparing u) s e = TreeRefuses u.condition s e ⊎ (AnswersTree u.condition s true × IsOutOfMemory e)

abbrev pub rule_reads : {L : Type 0} → RuleCondition L → List ReadName
rule_reads (Plain c) = tree_reads c
rule_reads (Sparing u) = tree_reads u.condition

pub rule-never_failed : {L : Type 0} (c : RuleCondition L) (s : Values) → ¬ RuleRefuses c s Failed
rule-never_failed (Plain c) s r = tree-never_failed c s r
rule-never_failed (Sparing u) s r = memory-never_failed (tree-never_failed u.condition s) r

pub rule-one_answer : {L : Type 0} (form : L → Form) (c : RuleCondition L) (s : Values) (g : Graph) → IsOneAnswer (AnswersRule form c s g)
rule-one_answer form (Plain c) s g = outcome-one (outcome c s)
rule-one_answer form (Sparing u) s g = unless-one (AnswersTree u.condition s) (outcome-one (outcome u.condition s)) g s (tree_of form u.left) (tree_of form u.right)
