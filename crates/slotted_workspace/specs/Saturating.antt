-- Runs of the rules of a workspace by whether they ended.
--     is_saturated r                      a run that stopped for the reason r has ended saturated
--     RunsRules form limits s v rules e   these rules were run from s to v, each new asserted equation comes from one of them, and e says whether the run ended saturated
--     HasRulesRun form limits s v e       so it is of some rules that are those of the workspace
use Rattle.std.specs.Prelude.{◌≡◌, List, Bool, true, false, String}
use Rattle.std.specs.declared.alloc.Global.{Global}
use Rattle.slotted_nodes.specs.Form.{Form}
use Rattle.slotted_rules.specs.RuleOrigins.{AreFromRules}
use Rattle.slotted_rules.specs.declared.rewrite.Rewrite.{Rewrite}
use Rattle.slotted_rules.specs.declared.report.Report.{Report}
use Rattle.slotted_rules.specs.declared.report.StopReason.{StopReason}
use Rattle.slotted_rules.specs.declared.report.StopReason.TheVariants.{Saturated, IterationLimit, TimeLimit, NodeLimit, Other}
use Rattle.slotted_workspace.specs.Runs.{HasRun, OfRules}
use Rattle.slotted_workspace.specs.Spaces.{Space}
use Rattle.slotted_workspace.specs.declared.running.Limits.{Limits}
use Rattle.slotted_workspace.specs.declared.sparing.RuleCondition.{RuleCondition}
use Rattle.slotted_workspace.specs.Sparing.{AnswersRule}

abbrev pub is_saturated : StopReason (String Global) → Bool
is_saturated Saturated = true
is_saturated IterationLimit = false
is_saturated TimeLimit = false
is_saturated NodeLimit = false
is_saturated (Other reason) = false

pub record RunsRules {L : Type 0} (form : L → Form) (limits : Limits) (s v : Space) (rules : List (Rewrite L (RuleCondition L))) (ended : Bool) : Type 0 where
  pub report : Report (String Global)
  pub run : HasRun form rules limits.turns limits.nodes s.graph v.graph report
  pub origins : AreFromRules form (AnswersRule form) rules s.graph v.graph
  pub ends : ended ≡ is_saturated report.stop_reason

abbrev pub HasRulesRun : {L : Type 0} → (L → Form) → Limits → Space → Space → Bool → Type 0
HasRulesRun form limits s v ended = OfRules form s (λ rules. RunsRules form limits s v rules ended)
