-- the conditions so far are asked, and only their slots were named
use Rattle.std.proofs.Common.{take}
use Rattle.std.specs.Prelude.{map}
use Rattle.slotted_rule_texts.specs.Told.{told_condition}
use Rattle.slotted_workspace.specs.RuleTexts.{AsksAll}
use Rattle.slotted_workspace.proofs.RuleTexts.{HasRead}
use Rattle.slotted_workspace.proofs.rule_texts.conditions_for.Given as goal

abbrev pub invariant-loop-condition : goal.invariant-loop-condition
invariant-loop-condition g l = record {
  asks : AsksAll l.initial.graph.table l.all (map told_condition (take l.condition-index l.asked)) l.graph.table;
  read : HasRead l.initial.graph l.graph;
}
