-- What rules and runs print.
--     rule_text shown t r        a rule over a table: its name and both sides, as `shown` has these
--     reason_text output r       why a run stopped: the case, or the hook's own reason
--     report_text output r       a report: its counts, and why the run stopped
use Rattle.std.specs.Prelude.{ℕ, List, ◌++◌, Option, Some, codes, decimal, option_map, string_bytes}
use Rattle.slotted_slots.specs.Table.{Table}
use Rattle.slotted_patterns.specs.declared.pattern.Pattern.{Pattern}
use Rattle.slotted_rules.specs.declared.report.Report.{Report}
use Rattle.slotted_rules.specs.declared.report.StopReason.{StopReason}
use Rattle.slotted_rules.specs.declared.report.StopReason.TheVariants.{Saturated, IterationLimit, TimeLimit, NodeLimit, Other}
use Rattle.slotted_rules.specs.declared.rewrite.Rewrite.{Rewrite}

abbrev pub reason_text : {T : Type 0} → (T → Option (List ℕ)) → StopReason T → Option (List ℕ)
reason_text output Saturated = Some (codes "Saturated")
reason_text output IterationLimit = Some (codes "IterationLimit")
reason_text output TimeLimit = Some (codes "TimeLimit")
reason_text output NodeLimit = Some (codes "NodeLimit")
reason_text output (Other reason) = output reason

abbrev pub report_text : {T : Type 0} → (T → Option (List ℕ)) → Report T → Option (List ℕ)
report_text output r =
    option_map (λ reason. decimal r.iterations ++ (codes " turns, " ++ (decimal r.egraph_nodes ++ (codes " e-nodes, " ++ (decimal r.egraph_classes ++ (codes " classes: " ++ reason))))))
    (reason_text output r.stop_reason)

-- without its condition
abbrev pub rule_text : {L C : Type 0} → (Table → Pattern L → List ℕ) → Table → Rewrite L C → List ℕ
rule_text shown t r = string_bytes r.name ++ (codes ": " ++ (shown t r.left ++ (codes " => " ++ shown t r.right)))
