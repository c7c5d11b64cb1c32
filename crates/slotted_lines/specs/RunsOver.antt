-- Runs of the rules of a session.
--     TellsZero                        the clock tells 0, and stays as it is
--     RunnerState                      what a runner is that has no hook and this clock, and keeps nothing of its turns
--     searches_by, applies_by form     what a rule without a condition finds, and what it does with that
--     runner_over g n hook clock       a new runner over the graph g, with a limit of n turns and the usual other limits
--     HasRunRules ..                   from p to q the runner has run, and this is to be reported
--     refuses_turn form rules          why a turn is refused, and what it leaves
--     HasRefusedRules ..               it was refused so
--     Reports g h turns reason nodes   a run from g to h took so many turns, stopped for this reason, and leaves so many filed nodes
--     IsRefusedRun g h e               a run from g to h was refused: what was there stays, or the graph has failed, for want of memory or slots
use Rattle.std.specs.Prelude.{◌≡◌, ◌⊎◌, ◌↔◌, ⊤, ℕ, List, false, true, None, Option, IsTrue, string_bytes}
use Rattle.std.specs.declared.convert.Infallible.{Infallible}
use Rattle.slotted_slots.specs.declared.error.Error.{Error}
use Rattle.slotted_slots.specs.Error.{IsShortage}
use Rattle.slotted_nodes.specs.Form.{Form}
use Rattle.slotted_patterns.specs.View.{tree_of}
use Rattle.slotted_operations.specs.Graph.{Graph}
use Rattle.slotted_graph.specs.Extension.{ExtendsTo}
use Rattle.slotted_model_rules.specs.Conditions.{Values}
use Rattle.slotted_model_rules.specs.Runners.{usual_limits}
use Rattle.slotted_model_rules.specs.Runners as model
use Rattle.slotted_rules.specs.Applying.{NeverModified, RefusesRules}
use Rattle.slotted_rules.specs.Counting.{AppliesRule, BreaksRule, RefusesRule, SearchesRule}
use Rattle.slotted_rules.specs.declared.condition.Always.{Always}
use Rattle.slotted_rules.specs.declared.rewrite.Rewrite.{Rewrite}
use Rattle.slotted_rules.specs.Runs.{HasRun, IsRefused, MayRefuse}
use Rattle.slotted_rules.specs.Seen.{Parts, new_parts, stop_of}
use Rattle.slotted_rules.specs.Turning.{Calls, RefusesTurn, RulesOnce, measures}
use Rattle.slotted_rules.specs.declared.hook.NoHook.{NoHook}
use Rattle.slotted_rules.specs.declared.report.StopReason.{StopReason}
use Rattle.slotted_lines.specs.declared.still.StillClock.{StillClock}

abbrev pub TellsZero : StillClock → ℕ → StillClock → Type 0
TellsZero k time l = (time ≡ 0) × (l ≡ k)

abbrev pub RunnerState : Type 0
RunnerState = Parts ⊤ Infallible NoHook StillClock

abbrev pub searches_by : {L : Type 0} → (L → Form) → Rewrite L Always → Graph → List Values → Graph → Type 0
searches_by form = SearchesRule form

abbrev pub applies_by : {L : Type 0} → (L → Form) → Rewrite L Always → List Values → Graph → Graph → Type 0
applies_by form = AppliesRule form (λ _ _ _ y. y ≡ true)

abbrev pub refuses_by : {L : Type 0} → (L → Form) → Rewrite L Always → Error → Type 0
refuses_by form = RefusesRule form (λ _ _ _ _. ⊥)

-- a hook that does nothing
abbrev pub leaves_all : NoHook → Graph → ℕ → NoHook → Graph → Option Infallible → Type 0
leaves_all h g n i k stop = (k ≡ g) × (stop ≡ None)

abbrev pub runner_over : Graph → ℕ → NoHook → StillClock → RunnerState
runner_over g n hook clock =
    let p : RunnerState = new_parts g clock hook in record p { limits = record usual_limits { iterations = n } }

abbrev pub HasRunRules : {L : Type 0} → (L → Form) → List (Rewrite L Always) → RunnerState → RunnerState → model.Report Infallible → Type 0
HasRunRules {L} form rules p q told = HasRun TellsZero (RulesOnce (searches_by form) (applies_by form) (NeverModified L) rules) (Calls leaves_all) (measures (λ _ _. tt)) p q told

-- why a turn is refused: nothing is kept of turns, and the hook is never refused
abbrev pub refuses_turn : {L : Type 0} → (L → Form) → List (Rewrite L Always) → Graph × NoHook → ℕ → Graph × NoHook → Error → Type 0
refuses_turn {L} form rules = RefusesTurn (RefusesRules (searches_by form) (λ _ _ _ _. ⊥) (applies_by form) (BreaksRule form (λ _ _ _ y. y ≡ true) (λ _ _ _ _. ⊥)) rules)
    (RulesOnce (searches_by form) (applies_by form) (NeverModified L) rules) (λ _ _ _ _ _ _. ⊥) (Calls leaves_all) (λ _. ⊥)

abbrev pub HasRefusedRules : {L : Type 0} → (L → Form) → List (Rewrite L Always) → RunnerState → RunnerState → Error → Type 0
HasRefusedRules {L} form rules p q e = IsRefused TellsZero (RulesOnce (searches_by form) (applies_by form) (NeverModified L) rules) (Calls leaves_all) (measures (λ _ _. tt)) (refuses_turn form rules) p q e

pub record Reports {L : Type 0} (form : L → Form) (rules : List (Rewrite L Always)) (limit : ℕ) (g h : Graph) (turns : ℕ) (reason : StopReason Infallible) (nodes : ℕ) : Type 0 where
  pub hook : NoHook
  pub clock : StillClock
  pub last : RunnerState
  pub told : model.Report Infallible
  pub run : HasRunRules form rules (runner_over g limit hook clock) last told
  pub graph_is : h ≡ last.graph
  pub turns_are : turns ≡ told.iterations
  pub reason_is : stop_of reason ≡ told.stop_reason
  pub nodes_are : nodes ≡ told.egraph_nodes
  pub was_sound : g.failed ≡ false
  pub sound : h.failed ≡ false
  pub extends : ExtendsTo g h

pub record IsRefusedRun {L : Type 0} (form : L → Form) (rules : List (Rewrite L Always)) (limit : ℕ) (g h : Graph) (e : Error) : Type 0 where
  pub hook : NoHook
  pub clock : StillClock
  pub last : RunnerState
  pub refused : HasRefusedRules form rules (runner_over g limit hook clock) last e
  pub graph_is : h ≡ last.graph
  pub was_sound : g.failed ≡ false
  pub extends : IsTrue h.failed ⊎ ExtendsTo g h
  pub fails : IsTrue h.failed ↔ IsShortage e
  pub cause : IsShortage e ⊎ MayRefuse (refuses_by form) rules (λ _. ⊥) (λ _. ⊥) e
