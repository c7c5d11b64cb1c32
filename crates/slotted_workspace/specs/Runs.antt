-- Runs of the rules of a workspace.
--     TellsZero                    the clock tells 0, and stays as it is
--     StopsPast n g h stop         a hook leaves the graph as it is, and stops the run, by this text, past n filed nodes
--     searches_by, applies_by      what a rule finds, and what it does with that
--     refuses_by form rules        why a turn is refused, and what it leaves
--     HasRun form rules ..         from g to h the rules were run with these limits, and this is the report
--     RunRefused ..                such a run was refused
--     RunAnswers .. o              what such a run answers
--     OfRules form s P             P holds of some rules that are those of the workspace
use Rattle.std.specs.Prelude.{◌≡◌, ◌⊎◌, ◌↔◌, ◌≤◌, ◌<◌, ◌-◌, ◌^◌, ℕ, List, length, map, false, Option, None, Some, Result, Ok, Err, IsTrue, String, codes, string_bytes}
use Rattle.std.specs.declared.alloc.Global.{Global}
use Rattle.slotted_slots.specs.declared.error.Error.{Error}
use Rattle.slotted_slots.specs.Error.{IsShortage}
use Rattle.slotted_nodes.specs.Form.{Form}
use Rattle.slotted_operations.specs.Graph.{Graph}
use Rattle.slotted_graph.specs.Extension.{ExtendsTo}
use Rattle.slotted_model_rules.specs.Conditions.{Values}
use Rattle.slotted_rules.specs.Applying.{AreRefusedBy, NeverModified, RefusesRules}
use Rattle.slotted_rules.specs.Counting.{AppliesRule, BreaksRule, RefusesRule, SearchesRule}
use Rattle.slotted_rules.specs.declared.rewrite.Rewrite.{Rewrite}
use Rattle.slotted_rules.specs.Eqsat.{HasEqsatReported, HasRefusedEqsat}
use Rattle.slotted_rules.specs.Turning.{Calls, RefusesTurn, RulesOnce}
use Rattle.slotted_rules.specs.declared.report.Report.{Report}
use Rattle.slotted_workspace.specs.Asked.{HadFailed}
use Rattle.slotted_workspace.specs.Spaces.{Space, rule_of}
use Rattle.slotted_workspace.specs.declared.running.NoClock.{NoClock}
use Rattle.slotted_workspace.specs.declared.running.NodeLimit.{NodeLimit}
use Rattle.slotted_workspace.specs.declared.sparing.RuleCondition.{RuleCondition}
use Rattle.slotted_workspace.specs.Sparing.{AnswersRule, RuleRefuses}

abbrev pub TellsZero : NoClock → ℕ → NoClock → Type 0
TellsZero k time l = (time ≡ 0) × (l ≡ k)

abbrev pub StopsPast : ℕ → Graph → Graph → Option (String Global) → Type 0
StopsPast n g h None = (h ≡ g) × (length g.filed ≤ n)
StopsPast n g h (Some text) = (h ≡ g) × (n < length g.filed) × (string_bytes text ≡ codes "NodeLimit")

abbrev pub searches_by : {L : Type 0} → (L → Form) → Rewrite L (RuleCondition L) → Graph → List Values → Graph → Type 0
searches_by form = SearchesRule form

abbrev pub applies_by : {L : Type 0} → (L → Form) → Rewrite L (RuleCondition L) → List Values → Graph → Graph → Type 0
applies_by form = AppliesRule form (AnswersRule form)

abbrev pub leaves_by : NodeLimit → Graph → ℕ → NodeLimit → Graph → Option (String Global) → Type 0
leaves_by h g n i k stop = StopsPast h.nodes g k stop × (i ≡ h)

-- so many seconds never pass by a clock that stands still
abbrev pub endless : ℕ
endless = 2 ^ 64 - 1

-- why a turn is refused: nothing is kept of turns, and the hook is refused for want of memory alone
abbrev pub refuses_by : {L : Type 0} → (L → Form) → List (Rewrite L (RuleCondition L)) → Graph × NodeLimit → ℕ → Graph × NodeLimit → Error → Type 0
refuses_by {L} form rules = RefusesTurn (RefusesRules (searches_by form) (λ _ _ _ _. ⊥) (applies_by form) (BreaksRule form (AnswersRule form) (λ c s _. RuleRefuses c s)) rules)
    (RulesOnce (searches_by form) (applies_by form) (NeverModified L) rules) (λ _ _ _ _ _ _. ⊥) (Calls leaves_by) (λ _. ⊥)

-- a turn that stops the run is not counted
pub record HasRun {L : Type 0} (form : L → Form) (rules : List (Rewrite L (RuleCondition L))) (turns nodes : ℕ) (g h : Graph) (r : Report (String Global)) : Type 0 where
  pub well : g.failed ≡ false
  pub sound : h.failed ≡ false
  pub extends : ExtendsTo g h
  pub hook : NodeLimit
  pub limit : hook.nodes ≡ nodes
  pub last : NodeLimit
  pub clock : NoClock
  pub later : NoClock
  pub reported : HasEqsatReported TellsZero (RulesOnce (searches_by form) (applies_by form) (NeverModified L) rules) (Calls leaves_by) turns endless (g, hook) clock (h, last) later r

pub record IsRefusedRun {L : Type 0} (form : L → Form) (rules : List (Rewrite L (RuleCondition L))) (turns nodes : ℕ) (g h : Graph) (e : Error) : Type 0 where
  pub well : g.failed ≡ false
  pub extends : IsTrue h.failed ⊎ ExtendsTo g h
  pub fails : IsTrue h.failed ↔ IsShortage e
  pub cause : IsShortage e ⊎ AreRefusedBy (RefusesRule form (λ c s _. RuleRefuses c s)) rules e
  pub hook : NodeLimit
  pub limit : hook.nodes ≡ nodes
  pub last : NodeLimit
  pub clock : NoClock
  pub later : NoClock
  pub refused : HasRefusedEqsat TellsZero (RulesOnce (searches_by form) (applies_by form) (NeverModified L) rules) (Calls leaves_by) turns endless (refuses_by form rules) (g, hook) clock (h, last) later e

abbrev pub RunRefused : {L : Type 0} → (L → Form) → List (Rewrite L (RuleCondition L)) → ℕ → ℕ → Graph → Graph → Error → Type 0
RunRefused form rules turns nodes g h e = HadFailed g h e ⊎ IsRefusedRun form rules turns nodes g h e

abbrev pub RunAnswers : {L : Type 0} → (L → Form) → List (Rewrite L (RuleCondition L)) → ℕ → ℕ → Graph → Graph → Result (Report (String Global)) Error → Type 0
RunAnswers form rules turns nodes g h (Ok r) = HasRun form rules turns nodes g h r
RunAnswers form rules turns nodes g h (Err e) = RunRefused form rules turns nodes g h e

-- of some rules that are those of the workspace
abbrev pub OfRules : {L : Type 0} → (L → Form) → Space → (List (Rewrite L (RuleCondition L)) → Type 0) → Type 0
OfRules {L} form s P = (rules : List (Rewrite L (RuleCondition L))) × (map (rule_of form) rules ≡ s.rules) × P rules
