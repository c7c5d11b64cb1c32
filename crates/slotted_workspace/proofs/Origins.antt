-- The equations that a run of a workspace's rules asserts come from these rules.
use Rattle.std.proofs.Common.{◌≡◌, ℕ, List, subst, sym}
use Rattle.std.specs.Prelude.{Bool, None, Option, Some, String}
use Rattle.std.specs.declared.alloc.Global.{Global}
use Rattle.slotted_nodes.specs.Form.{Form}
use Rattle.slotted_operations.specs.Graph.{Graph}
use Rattle.slotted_graph.specs.Extension.{ExtendsTo}
use Rattle.slotted_graph.proofs.Extending.{extends-itself}
use Rattle.slotted_rules.specs.Applying.{NeverModified}
use Rattle.slotted_rules.specs.RuleOrigins.{AreFromRules}
use Rattle.slotted_rules.specs.declared.rewrite.Rewrite.{Rewrite}
use Rattle.slotted_rules.proofs.Modified.{never-changed}
use Rattle.slotted_rules.specs.Eqsat.{counts_of, report_of}
use Rattle.slotted_rules.specs.Turning.{reading_in}
use Rattle.slotted_rules.specs.declared.report.Report.{Report}
use Rattle.slotted_rules.proofs.RunOrigins.{eqsat-origins, rules-alone}
use Rattle.slotted_workspace.specs.Runs.{HasRun, OfRules, StopsPast, endless, leaves_by}
use Rattle.slotted_workspace.specs.Spaces.{Space}
use Rattle.slotted_workspace.specs.declared.running.Limits.{Limits}
use Rattle.slotted_workspace.specs.Saturating.{HasRulesRun, is_saturated}
use Rattle.slotted_workspace.specs.declared.sparing.RuleCondition.{RuleCondition}
use Rattle.slotted_workspace.specs.Sparing.{AnswersRule}

-- the hook leaves the graph as it is
limit-still : (n : ℕ) (g h : Graph) (stop : Option (String Global)) → StopsPast n g h stop → h ≡ g
limit-still n g h None says = says.0
limit-still n g h (Some text) says = says.0

pub run-from-rules : {L : Type 0} (form : L → Form) (rules : List (Rewrite L (RuleCondition L))) (turns nodes : ℕ) (g h : Graph) (r : Report (String Global)) → HasRun form rules turns nodes g h r →
    AreFromRules form (AnswersRule form) rules g h
run-from-rules {L} form rules turns nodes g h r run =
    rules-alone form (AnswersRule form) rules (NeverModified L) grows leaves_by (λ k l f i n stop says. subst (ExtendsTo f) (sym (limit-still k.nodes f i stop says.0)) (extends-itself f)) g h
    (λ k l f i n stop says. limit-still k.nodes f i stop says.0) (never-changed L)
    (eqsat-origins form (AnswersRule form) rules (NeverModified L) grows leaves_by (λ k l f i n stop says. subst (ExtendsTo f) (sym (limit-still k.nodes f i stop says.0)) (extends-itself f)) counts_of turns endless (reading_in run.reported.readings) 0
    (g, run.hook) (h, run.last) (report_of r) run.reported.by_turns)
  where
    grows : (f i : Graph) → NeverModified L f i → ExtendsTo f i
    grows f i m = subst (ExtendsTo f) (sym (never-changed L f i m)) (extends-itself f)

pub rules-ran : {L : Type 0} (form : L → Form) (limits : Limits) (s v : Space) (r : Report (String Global)) (ended : Bool) → ended ≡ is_saturated r.stop_reason →
    OfRules form s (λ rules. HasRun form rules limits.turns limits.nodes s.graph v.graph r) → HasRulesRun form limits s v ended
rules-ran form limits s v r ended ends of =
    (of.0, of.1, record { report = r; run = of.2; origins = run-from-rules form of.0 limits.turns limits.nodes s.graph v.graph r of.2; ends = ends })
