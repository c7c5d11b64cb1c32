-- What a question about two terms is answered with, and what is asserted then.
--     Judges written g h stop t u x       the verdict x on two terms, after a run that stopped so; the graph goes from g to h
--     AddsBoth read s one both ..         the terms of two texts are added, which asserts nothing
--     AnswersQuestion ..                  both terms are added, the rules run, and then the terms are judged
--     QuestionRefused ..                  one of these is refused
use Rattle.std.specs.Prelude.{◌≡◌, ◌≢◌, ℕ, List, Option}
use Rattle.slotted_slots.specs.Syntax.{Element}
use Rattle.slotted_theory.specs.Term.{Term}
use Rattle.slotted_nodes.specs.Form.{Form}
use Rattle.slotted_operations.specs.Graph.{Graph}
use Rattle.slotted_operations.specs.Image.{asserted_in}
use Rattle.slotted_decided.specs.declared.running.DecidedLimits.{DecidedLimits}
use Rattle.slotted_decided.specs.declared.running.DecidedRun.{DecidedRun}
use Rattle.slotted_decided.specs.declared.running.DecidedStop.{DecidedStop}
use Rattle.slotted_decided.specs.declared.running.DecidedStop.TheVariants.{Saturated}
use Rattle.slotted_workspace.specs.Asked.{AddRefused, AddsTerm, ChangesGraph, Refuses, RefusesBoth}
use Rattle.slotted_workspace.specs.Decided.{DecideRefused, DecidedRunRefused, ProvesTerms, RunsDecided}
use Rattle.slotted_workspace.specs.Runs.{OfRules}
use Rattle.slotted_workspace.specs.Spaces.{Space}
use Rattle.slotted_workspace.specs.declared.deciding.ExplainedText.TheVariants.{Proved, Undecided, Unequal}
use Rattle.slotted_workspace.specs.declared.error.WorkspaceError.{WorkspaceError}
use Rattle.slotted_workspace.specs.declared.handle.Handle.{Handle}
use Rattle.slotted_uses.specs.declared.question.Verdict.{Verdict}
use Rattle.slotted_uses.specs.declared.question.Verdict.TheVariants.{Yes, No, Stopped, Open}

-- a yes has a proof; a no says that nothing asserted makes the terms equal, after a run that saturated the graph; else the run did not, or the graph
-- has too many symmetries to be decided
abbrev pub Judges : (Term → List Element) → Graph → Graph → DecidedStop → Term → Term → Verdict → Type 0
Judges written g h stop t u (Yes text) = ProvesTerms written g h t u (Proved text)
Judges written g h stop t u No = (stop ≡ Saturated) × ProvesTerms written g h t u Unequal
Judges written g h stop t u Stopped = (stop ≢ Saturated) × ProvesTerms written g h t u Unequal
Judges written g h stop t u Open = ProvesTerms written g h t u Undecided

pub record AddsBoth (read : List Element → Option Form) (s v : Space) (left right : List ℕ) (first second : Handle) : Type 0 where
  pub between : Space
  pub adds_left : AddsTerm read s between left first
  pub adds_right : AddsTerm read between v right second
  pub asserts : asserted_in v.graph.image ≡ asserted_in s.graph.image

pub record AnswersQuestion {L : Type 0} (form : L → Form) (read : List Element → Option Form) (written : Term → List Element) (limits : DecidedLimits) (s v : Space) (left right : List ℕ) (x : Verdict) : Type 0 where
  pub asked : Space
  pub first : Handle
  pub second : Handle
  pub adds : AddsBoth read s asked left right first second
  pub ran : Space
  pub run : DecidedRun
  pub runs : OfRules form asked (λ rules. RunsDecided form rules limits asked.graph ran.graph run)
  pub only_rules : ChangesGraph asked ran
  pub judges : Judges written ran.graph v.graph run.stop adds.adds_left.term adds.adds_right.term x
  pub only_judges : ChangesGraph ran v

-- a text is refused, or the run of the rules, or the proof
pub data QuestionRefused {L : Type 0} (form : L → Form) (read : List Element → Option Form) (limits : DecidedLimits) (s v : Space) (left right : List ℕ) (e : WorkspaceError) : Type 0 where
  left_refused : Refuses s v (AddRefused read s.graph v.graph left) e → QuestionRefused form read limits s v left right e
  right_refused : (between : Space) (first : Handle) → AddsTerm read s between left first → Refuses between v (AddRefused read between.graph v.graph right) e →
      QuestionRefused form read limits s v left right e
  run_refused : (asked : Space) (first second : Handle) → AddsBoth read s asked left right first second →
      Refuses asked v (λ e. OfRules form asked (λ rules. DecidedRunRefused form rules asked.graph v.graph e)) e → QuestionRefused form read limits s v left right e
  proof_refused : (asked ran : Space) (run : DecidedRun) (first second : Handle) → AddsBoth read s asked left right first second →
      OfRules form asked (λ rules. RunsDecided form rules limits asked.graph ran.graph run) → ChangesGraph asked ran →
      RefusesBoth ran v first second (λ _ _. DecideRefused ran.graph v.graph) e → QuestionRefused form read limits s v left right e
