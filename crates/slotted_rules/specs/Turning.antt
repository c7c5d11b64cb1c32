-- Turns over a graph with the state of a hook.
--     RulesOnce searches applies after rules   the rules once, and then `after`, rounds of edits, which leave the hook as it is
--     Calls leaves                       a call of the hook
--     progress_of g                      the four numbers of the graph's progress measure
--     measures made                      what is read off a graph
--     TellsAll tells k readings l        the clock k tells these readings, one after another, and is l then
--     ReadsFrom clock n readings         these are the readings from the n-th on
--     reading_in readings                the readings by their numbers, and 0 past the last
--     Spoils s n t                       what a refused turn leaves: a graph that has failed, or one that extends what was there
--     RefusesTurn .. s n t e            why a turn is refused, and what it leaves: memory or slots ran out, or a rule was refused, the hook, or what is kept of the turn
--     IsStart begun clock start k        a run starts with the first reading, or it was begun with an earlier one. The reading k is next
--     IsStopClone is_clone r s           the reason s is a clone of the reason r
--     IsReportClone is_clone r s         the report s is that of the model, r, with a clone of its reason
use Rattle.std.specs.Prelude.{◌≡◌, ◌⊎◌, ℕ, suc, List, [], ◌∷◌, length, Option, Some, None, IsTrue, slice_index_or}
use Rattle.slotted_slots.specs.declared.error.Error.{Error}
use Rattle.slotted_slots.specs.Error.{IsShortage}
use Rattle.slotted_nodes.specs.Form.{counted}
use Rattle.slotted_operations.specs.Graph.{Graph}
use Rattle.slotted_operations.specs.Image.{Image}
use Rattle.slotted_operations.specs.Reports.{live_classes}
use Rattle.slotted_graph.specs.Extension.{ExtendsTo}
use Rattle.slotted_graph.specs.Measure.{slots_of_live}
use Rattle.slotted_model_rules.specs.Runners.{AppliesRules, Measures, Stop, saturated, iteration_limit, time_limit, node_limit, other}
use Rattle.slotted_model_rules.specs.Runners as model
use Rattle.slotted_rules.specs.Applying.{ThenModifies}
use Rattle.slotted_rules.specs.Seen.{stop_of}
use Rattle.slotted_rules.specs.declared.report.Report.{Report}

abbrev pub RulesOnce : {Q F H : Type 0} → (Q → Graph → F → Graph → Type 0) → (Q → F → Graph → Graph → Type 0) → (Graph → Graph → Type 0) → List Q → Graph × H → Graph × H → Type 0
RulesOnce searches applies after rules s t = ThenModifies (AppliesRules searches applies rules) after s.0 t.0 × (t.1 ≡ s.1)

abbrev pub Calls : {H T : Type 0} → (H → Graph → ℕ → H → Graph → Option T → Type 0) → Graph × H → ℕ → Graph × H → Option T → Type 0
Calls leaves s n t stop = leaves s.1 s.0 n t.1 t.0 stop

-- classes, live classes, their slots, and their symmetries
abbrev pub progress_of : Image → List ℕ
progress_of g = length g.canonical ∷ length (live_classes g) ∷ counted (slots_of_live g) ∷ length (live_classes g) ∷ []

abbrev pub measures : {H D : Type 0} → (Graph → ℕ → D) → Measures (Graph × H) D
measures made = record {
  nodes = λ s. length s.0.filed;
  classes = λ s. length s.0.image.canonical;
  live_classes = λ s. length (live_classes s.0.image);
  progress = λ s. progress_of s.0.image;
  made = λ s n. made s.0 n;
}

abbrev pub TellsAll : {K : Type 0} → (K → ℕ → K → Type 0) → K → List ℕ → K → Type 0
TellsAll tells k [] l = l ≡ k
TellsAll {K} tells k (r ∷ readings) l = (between : K) × tells k r between × TellsAll tells between readings l

abbrev pub ReadsFrom : (ℕ → ℕ) → ℕ → List ℕ → Type 0
ReadsFrom clock n [] = Unit {0}
ReadsFrom clock n (r ∷ readings) = (clock n ≡ r) × ReadsFrom clock (suc n) readings

abbrev pub reading_in : List ℕ → ℕ → ℕ
reading_in readings n = slice_index_or readings n 0

abbrev pub Spoils : {H : Type 0} → Graph × H → ℕ → Graph × H → Type 0
Spoils s n t = IsTrue t.0.failed ⊎ ExtendsTo s.0 t.0

pub data RefusesTurn {H T : Type 0} (rules : Graph → Graph → Error → Type 0) (applies : Graph × H → Graph × H → Type 0) (hook : H → Graph → ℕ → H → Graph → Error → Type 0) (hooks : Graph × H → ℕ → Graph × H → Option T → Type 0)
    (kept : Error → Type 0) (s : Graph × H) (n : ℕ) (t : Graph × H) (e : Error) : Type 0 where
  no_room : IsShortage e → Spoils s n t → RefusesTurn rules applies hook hooks kept s n t e
  rules_refused : rules s.0 t.0 e → t.1 ≡ s.1 → RefusesTurn rules applies hook hooks kept s n t e
  hook_refused : (applied : Graph × H) → applies s applied → hook applied.1 applied.0 n t.1 t.0 e → RefusesTurn rules applies hook hooks kept s n t e
  data_refused : (applied : Graph × H) (stop : Option T) → applies s applied → hooks applied n t stop → kept e → RefusesTurn rules applies hook hooks kept s n t e

abbrev pub IsStart : Option ℕ → (ℕ → ℕ) → ℕ → ℕ → Type 0
IsStart None clock start k = (start ≡ clock 0) × (k ≡ 1)
IsStart (Some begun) clock start k = (start ≡ begun) × (k ≡ 0)

abbrev pub IsStopClone : {T : Type 0} → (T → T → Type 0) → Stop T → Stop T → Type 0
IsStopClone is_clone saturated s = s ≡ saturated
IsStopClone is_clone iteration_limit s = s ≡ iteration_limit
IsStopClone is_clone time_limit s = s ≡ time_limit
IsStopClone is_clone node_limit s = s ≡ node_limit
IsStopClone {T} is_clone (other t) s = (u : T) × (s ≡ other u) × is_clone t u

pub record IsReportClone {T : Type 0} (is_clone : T → T → Type 0) (r : model.Report T) (s : Report T) : Type 0 where
  pub iterations : s.iterations ≡ r.iterations
  pub stop_reason : IsStopClone is_clone r.stop_reason (stop_of s.stop_reason)
  pub egraph_nodes : s.egraph_nodes ≡ r.egraph_nodes
  pub egraph_classes : s.egraph_classes ≡ r.egraph_classes
  pub total_time : s.total_time ≡ r.total_time
