-- What a line is answered with over a session, and what it leaves of it.
--     IsRuleRead g h name left right r     the texts read as the rule r over the table of g, and the table of h is left
--     IsRuleRefused g h left right e       no rule is kept: the graph had failed, a text is refused, or a rule of these patterns
--     RuleAnswers s t name left right o    what keeping a rule gives
--     RunAnswers limit s t o               what a run of the rules gives
--     told_of_rule, told_of_run o          the answers to these
--     AnsweredIn s t command told          the command is answered so over s, and leaves t
use Rattle.std.specs.Prelude.{◌≡◌, ◌-◌, ⊤, ℕ, List, [], ◌∷◌, ◌++◌, Option, Result, Ok, Err, IsTrue, false, string_bytes}
use Rattle.std.specs.declared.convert.Infallible.{Infallible}
use Rattle.slotted_theory.specs.Term.{Term}
use Rattle.slotted_slots.specs.declared.error.Error.{Error}
use Rattle.slotted_slots.specs.declared.error.Error.TheVariants.{Failed}
use Rattle.slotted_slots.specs.Syntax.{Element}
use Rattle.slotted_nodes.specs.Form.{Form}
use Rattle.slotted_operations.specs.Graph.{Graph, OnlyReads, totals_of}
use Rattle.slotted_commands.specs.Commands.{Command}
use Rattle.slotted_commands.specs.Sessions.{Answered}
use Rattle.slotted_commands.specs.declared.answer.Answer.{Answer}
use Rattle.slotted_commands.specs.declared.answer.Answer.TheVariants.{Done, Refused}
use Rattle.slotted_rules.specs.Written.{AreRead, AreRefused}
use Rattle.slotted_rules.specs.declared.condition.Always.{Always}
use Rattle.slotted_rules.specs.declared.rewrite.Rewrite.{Rewrite}
use Rattle.slotted_rules.specs.declared.report.Report.{Report}
use Rattle.slotted_rules.specs.declared.report.StopReason.{StopReason}
use Rattle.slotted_lines.specs.declared.told.Run.{Run}
use Rattle.slotted_lines.specs.declared.told.Told.{Told}
use Rattle.slotted_lines.specs.declared.told.Told.TheVariants.{Plain, Ran}
use Rattle.slotted_lines.specs.Requests.{SessionCommand, makes_rule, runs, plain}
use Rattle.slotted_lines.specs.RunsOver.{Reports, IsRefusedRun}
use Rattle.slotted_lines.specs.States.{SessionState}

pub record IsRuleRead {L : Type 0} (form : L → Form) (read : List Element → Option Form) (g h : Graph) (name left right : List ℕ) (r : Rewrite L Always) : Type 0 where
  pub sound : g.failed ≡ false
  pub named : string_bytes r.name ≡ name
  pub are : AreRead form read g.table h.table left right r
  pub only : OnlyReads g h

pub data IsRuleRefused {L : Type 0} (form : L → Form) (read : List Element → Option Form) (g h : Graph) (left right : List ℕ) (e : Error) : Type 0 where
  had_failed : IsTrue g.failed → h ≡ g → e ≡ Failed → IsRuleRefused form read g h left right e
  texts_refused : g.failed ≡ false → AreRefused form read g.table h.table left right [] e → OnlyReads g h → IsRuleRefused form read g h left right e

-- the rule comes last, or the rules are those that there were
abbrev pub RuleAnswers : {L : Type 0} → (L → Form) → (List Element → Option Form) → SessionState L → SessionState L → List ℕ → List ℕ → List ℕ → Result ⊤ Error → Type 0
RuleAnswers {L} form read s t name left right (Ok x) = (r : Rewrite L Always) × IsRuleRead form read s.graph t.graph name left right r × (t.rules ≡ s.rules ++ r ∷ [])
RuleAnswers form read s t name left right (Err e) = IsRuleRefused form read s.graph t.graph left right e × (t.rules ≡ s.rules)

-- a graph that had failed is left as it is
pub data RunRefused {L : Type 0} (form : L → Form) (rules : List (Rewrite L Always)) (limit : ℕ) (g h : Graph) (e : Error) : Type 0 where
  run_failed : IsTrue g.failed → h ≡ g → e ≡ Failed → RunRefused form rules limit g h e
  turn_refused : IsRefusedRun form rules limit g h e → RunRefused form rules limit g h e

abbrev pub RunAnswers : {L : Type 0} → (L → Form) → ℕ → SessionState L → SessionState L → Result (Report Infallible) Error → Type 0
RunAnswers form limit s t (Ok r) = Reports form s.rules limit s.graph t.graph r.iterations r.stop_reason r.egraph_nodes × (t.rules ≡ s.rules)
RunAnswers form limit s t (Err e) = RunRefused form s.rules limit s.graph t.graph e × (t.rules ≡ s.rules)

abbrev pub told_of_rule : Result ⊤ Error → Told
told_of_rule (Ok x) = Plain Done
told_of_rule (Err e) = Plain (Refused e)

-- what a run tells, by the totals of rebuilds before and after
abbrev pub run_between : ℕ × ℕ → ℕ × ℕ → ℕ → StopReason Infallible → ℕ → Run
run_between before after turns reason nodes = record { turns = turns; reason = reason; nodes = nodes; rebuild_turns = after.0 - before.0; rebuild_bound = after.1 - before.1 }

abbrev pub told_of_run : Result (Report Infallible) Error → ℕ × ℕ → ℕ × ℕ → Told
told_of_run (Ok r) before after = Ran (run_between before after r.iterations r.stop_reason r.egraph_nodes)
told_of_run (Err e) before after = Plain (Refused e)

pub data AnsweredIn {L : Type 0} (read : List Element → Option Form) (written : Term → List Element) (form : L → Form) (s t : SessionState L) : SessionCommand → Told → Type 0 where
  -- what is asked of the graph alone is answered over it, and the rules stay
  answered : {c : Command} {a : Answer} → Answered read written s.graph t.graph c a → t.rules ≡ s.rules → AnsweredIn read written form s t (plain c) (Plain a)
  -- both texts are read, and the rule is kept
  rule_made : {name left right : List ℕ} (r : Rewrite L Always) → IsRuleRead form read s.graph t.graph name left right r → t.rules ≡ s.rules ++ r ∷ [] →
      AnsweredIn read written form s t (makes_rule name left right) (Plain Done)
  rule_refused : {name left right : List ℕ} {e : Error} → IsRuleRefused form read s.graph t.graph left right e → t.rules ≡ s.rules →
      AnsweredIn read written form s t (makes_rule name left right) (Plain (Refused e))
  -- all rules so far are run, and stay
  rules_run : {limit turns nodes : ℕ} {reason : StopReason Infallible} → Reports form s.rules limit s.graph t.graph turns reason nodes → t.rules ≡ s.rules →
      AnsweredIn read written form s t (runs limit) (Ran (run_between (totals_of s.graph) (totals_of t.graph) turns reason nodes))
  run_refused : {limit : ℕ} {e : Error} → RunRefused form s.rules limit s.graph t.graph e → t.rules ≡ s.rules →
      AnsweredIn read written form s t (runs limit) (Plain (Refused e))
