-- What keeping a rule gives, and what a run gives, is what the line is answered with.
use Rattle.std.proofs.Common.{◌≡◌, ℕ, List, Result, Ok, Err}
use Rattle.std.specs.Prelude.{⊤, Option, IsErr, IfErr}
use Rattle.std.proofs.lemmas.Bool.{false≢true}
use Rattle.std.specs.declared.convert.Infallible.{Infallible}
use Rattle.slotted_theory.specs.Term.{Term}
use Rattle.slotted_slots.specs.declared.error.Error.{Error}
use Rattle.slotted_slots.specs.Syntax.{Element}
use Rattle.slotted_nodes.specs.Form.{Form}
use Rattle.slotted_rules.specs.declared.report.Report.{Report}
use Rattle.slotted_operations.specs.Graph.{totals_of}
use Rattle.slotted_lines.specs.AnsweredIn.{AnsweredIn, IsRuleRefused, RuleAnswers, RunAnswers, rule_made, rule_refused, rules_run, run_refused, told_of_rule, told_of_run}
use Rattle.slotted_lines.specs.Requests.{makes_rule, runs}
use Rattle.slotted_lines.specs.States.{SessionState}

module _ {L : Type 0} (read : List Element → Option Form) (written : Term → List Element) (form : L → Form) (s t : SessionState L) where
  pub rule-answered : (name left right : List ℕ) (o : Result ⊤ Error) → RuleAnswers form read s t name left right o → AnsweredIn read written form s t (makes_rule name left right) (told_of_rule o)
  rule-answered name left right (Ok x) h = rule_made h.0 h.1 h.2
  rule-answered name left right (Err e) h = rule_refused h.0 h.1

  pub run-answered : (limit : ℕ) (o : Result (Report Infallible) Error) → RunAnswers form limit s t o →
      AnsweredIn read written form s t (runs limit) (told_of_run o (totals_of s.graph) (totals_of t.graph))
  run-answered limit (Ok r) h = rules_run h.0 h.1
  run-answered limit (Err e) h = run_refused h.0 h.1

  pub rule-refused : (name left right : List ℕ) (o : Result ⊤ Error) → IsErr o → IfErr o (IsRuleRefused form read s.graph t.graph left right) → t.rules ≡ s.rules → RuleAnswers form read s t name left right o
  rule-refused name left right (Ok x) is h same = absurd (false≢true is)
  rule-refused name left right (Err e) is h same = (h, same)
