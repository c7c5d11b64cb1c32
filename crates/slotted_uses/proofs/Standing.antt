-- Which terms the handles of a question stand for, and what an answered question says of them.
use Rattle.std.proofs.Common.{◌≡◌, ◌∙◌, ℕ, List, ap, subst, sym}
use Rattle.std.specs.Prelude.{Option, Some}
use Rattle.slotted_lists.proofs.Options.{Some-same}
use Rattle.slotted_slots.specs.Syntax.{Element}
use Rattle.slotted_theory.specs.Term.{Term}
use Rattle.slotted_nodes.specs.Form.{Form}
use Rattle.slotted_decided.specs.declared.running.DecidedLimits.{DecidedLimits}
use Rattle.slotted_decided.specs.declared.running.DecidedRun.{DecidedRun}
use Rattle.slotted_workspace.specs.Asked.{AddsTerm, ChangesGraph, OfBoth}
use Rattle.slotted_workspace.specs.Decided.{RunsDecided}
use Rattle.slotted_workspace.specs.Runs.{OfRules}
use Rattle.slotted_workspace.specs.Spaces.{Space, term_at}
use Rattle.slotted_workspace.specs.declared.handle.Handle.{Handle}
use Rattle.slotted_workspace.proofs.Handles.{asserts-nothing, stands-changed, stands-later}
use Rattle.slotted_uses.specs.Questions.{AddsBoth, AnswersQuestion, Judges}
use Rattle.slotted_uses.specs.declared.question.Verdict.{Verdict}

module _ (read : List Element → Option Form) (s between both : Space) (left right : List ℕ) (first second : Handle) (a : AddsTerm read s between left first) (b : AddsTerm read between both right second) where
  abbrev pub both-added : AddsBoth read s both left right first second
  both-added = record {
    between = between;
    adds_left = a;
    adds_right = b;
    asserts = asserts-nothing read between both right second b ∙ asserts-nothing read s between left first a;
  }

  -- what is said of the terms of both handles is said of the terms of both texts
  pub of-both : (v : Space) (P : Term → Term → Type 0) → ChangesGraph both v → OfBoth v first second P → P a.term b.term
  of-both v P only of =
      let one : term_at v first ≡ Some a.term = stands-changed both v first a.term only (stands-later between both first a.term b.term (ap (λ (x : Space). x.number) b.rest) (ap (λ (x : Space). x.terms) b.rest) a.stands) in
      let two : term_at v second ≡ Some b.term = stands-changed both v second b.term only b.stands in
      subst (λ t. P t b.term) (Some-same of.0 a.term (sym of.2 ∙ one)) (subst (P of.0) (Some-same of.1 b.term (sym of.3 ∙ two)) of.4)

  -- the rules have run, and the terms were judged
  pub answered : {L : Type 0} (form : L → Form) (written : Term → List Element) (limits : DecidedLimits) (ran v : Space) (run : DecidedRun) (x : Verdict) → OfRules form both (λ rules. RunsDecided form rules limits both.graph ran.graph run) → ChangesGraph both ran →
      OfBoth ran first second (λ t u. Judges written ran.graph v.graph run.stop t u x) → ChangesGraph ran v → AnswersQuestion form read written limits s v left right x
  answered form written limits ran v run x runs only judged changes = record {
    asked = both;
    first = first;
    second = second;
    adds = both-added;
    ran = ran;
    run = run;
    runs = runs;
    only_rules = only;
    judges = of-both ran (λ t u. Judges written ran.graph v.graph run.stop t u x) only judged;
    only_judges = changes;
  }
