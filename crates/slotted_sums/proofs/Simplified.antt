-- What the steps of a simplification say of its term.
use Rattle.std.proofs.Common.{◌≡◌, ◌≢◌, ◌⊎◌, ◌↔◌, ◌∙◌, ◌<◌, ◌≤◌, ℕ, List, Bool, true, false, Err, IsErrOf, length, ap, arith, inl, inr, refl, subst, sym}
use Rattle.std.specs.Prelude.{IsTrue, Option}
use Rattle.std.specs.Str.{chars}
use Rattle.std.specs.declared.convert.Infallible.{Infallible}
use Rattle.std.proofs.lemmas.Bool.{false≢true}
use Rattle.slotted_slots.specs.declared.error.Error.{Error}
use Rattle.slotted_slots.specs.declared.error.Error.TheVariants.{Failed}
use Rattle.slotted_slots.specs.Error.{IsShortage}
use Rattle.slotted_slots.specs.Syntax.{Element}
use Rattle.slotted_languages.proofs.HandedOn.{error_or, other-refusal}
use Rattle.slotted_theory.specs.Term.{Term}
use Rattle.slotted_theory.specs.Nameless.{DTerm, nameless}
use Rattle.slotted_theory.specs.Derives.{Equal}
use Rattle.slotted_theory.proofs.Backward.{Equal-derives}
use Rattle.slotted_nodes.specs.Form.{Form}
use Rattle.slotted_model.specs.Applied.{Applied}
use Rattle.slotted_model.specs.Classes.{term_of}
use Rattle.slotted_model.specs.Cost.{AtMost, CostFunction, tree_cost}
use Rattle.slotted_model_rules.specs.Conditions.{Values}
use Rattle.slotted_model_rules.specs.Runners as model
use Rattle.slotted_costs.specs.Costs.{MayRefuse, cost_of_term}
use Rattle.slotted_operations.specs.Graph.{Graph, IsFullId, OnlyReads}
use Rattle.slotted_operations.specs.Image.{Image, asserted_in}
use Rattle.slotted_operations.specs.Reads.{AnswersTerm}
use Rattle.slotted_operations.proofs.CallerLemmas.{fills-itself}
use Rattle.slotted_graph.specs.Extension.{ExtendsTo}
use Rattle.slotted_graph.specs.LeastTerms.{IsLeastTerm}
use Rattle.slotted_graph.proofs.Extending.{extends-itself}
use Rattle.slotted_rules.specs.Counting.{AppliesRule, SearchesRule}
use Rattle.slotted_rules.specs.RuleOrigins.{AreFromRulesOrEdits}
use Rattle.slotted_rules.specs.declared.rewrite.Rewrite.{Rewrite}
use Rattle.slotted_rules.specs.RunOrigins.{HaveOrigins}
use Rattle.slotted_rules.specs.Runs.{HasRun}
use Rattle.slotted_rules.specs.Turning.{Calls, RulesOnce, measures, reading_in}
use Rattle.slotted_rules.specs.declared.hook.NoHook.{NoHook}
use Rattle.slotted_rules.proofs.RunOrigins.{run-origins}
use Rattle.slotted_sums.specs.Simplifying.{FollowsIn, GiveRefused, LeastRefused, RunsRules, State, had_failed, leaves_all, text_refused}

pub unfailed : (b : Bool) → ¬ IsTrue b → b ≡ false
unfailed true not = absurd (not refl)
unfailed false not = refl

pub refused-text : (read : List Element → Option Form) (refuses : Error → Type 0) (g h : Graph) (text : List ℕ) (e : Error) → OnlyReads g h → (IsErrOf {T = Term} (Err e) Failed ↔ IsTrue g.failed) → AnswersTerm read g h text (Err e) →
    GiveRefused read refuses g text e
refused-text read refuses g h text e reads failed answer = by g.failed refl
  where
    by : (b : Bool) → g.failed ≡ b → GiveRefused read refuses g text e
    by true f = had_failed f (ap (error_or Failed) (failed.1 f))
    by false well = text_refused h well (answer well) reads

pub least-refused : {A : Type 0} (refuses : Error → Type 0) (g : Graph) (e : Error) → (IsErrOf {T = A} (Err e) Failed ↔ IsTrue g.failed) → (e ≡ Failed) ⊎ (IsShortage e ⊎ MayRefuse refuses e) → LeastRefused refuses g e
least-refused refuses g e failed only = by g.failed refl
  where
    by : (b : Bool) → g.failed ≡ b → LeastRefused refuses g e
    by true f = inl (f, ap (error_or Failed) (failed.1 f))
    by false well = inr (well, other-refusal g.failed e well failed only)

pub well-refused : (refuses : Error → Type 0) (g : Graph) (e : Error) → g.failed ≡ false → LeastRefused refuses g e → IsShortage e ⊎ MayRefuse refuses e
well-refused refuses g e well (inl f) = absurd (false≢true (sym well ∙ f.0))
well-refused refuses g e well (inr r) = r.1

module _ {C : Type 0} (costs : CostFunction C) (g : Graph) (id : Applied) (t best : Term) (full : IsFullId g id) (stands : term_of g.image.canonical id ≡ nameless t) (least : IsLeastTerm g costs id best) where
  pub best-follows : FollowsIn g.image t best
  best-follows E is =
      let equal : Equal (asserted_in g.image) (nameless t) (nameless best) = subst (λ (d : DTerm). Equal (asserted_in g.image) d (nameless best)) stands (least.equal id (fills-itself g.image id full.full)) in
      Equal-derives t best (subst (λ (A : List (DTerm × DTerm)). Equal A (nameless t) (nameless best)) (sym is) equal)

  pub best-no-larger : AtMost costs (cost_of_term costs best) (cost_of_term costs t)
  best-no-larger = subst (λ (d : DTerm). AtMost costs (cost_of_term costs best) (tree_cost costs d)) stands (least.canonical id (full.full, refl))

-- the hook changes no graph, so what is asserted comes from rules or from edits
module _ {L Q : Type 0} (form : L → Form) (holds : Q → Values → Graph → Bool → Type 0) (after : Graph → Graph → Type 0) (rules : List (Rewrite L Q)) (grows : (g h : Graph) → after g h → ExtendsTo g h) where
  without-hook : (g h : Graph) → HaveOrigins form holds rules after leaves_all g h → AreFromRulesOrEdits form holds rules after g h
  without-hook g h origins n past lt new = elim (origins n past lt new) [
    | inl c ↦ inl c
    | inr (inl c) ↦
        let same : length c.after.image.entries ≡ length c.before.image.entries = ap (λ (x : Graph). length x.image.entries) c.called.0 in
        absurd (omega (arith, c.past, c.within, same))
    | inr (inr c) ↦ inr c
  ]

  still : (k l : NoHook) (g h : Graph) (n : ℕ) (stop : Option Infallible) → leaves_all k g n l h stop → ExtendsTo g h
  still k l g h n stop says = subst (ExtendsTo g) (sym says.0) (extends-itself g)

  pub runs-rules : {K : Type 0} (tells : K → ℕ → K → Type 0) (p q : State K) (told : model.Report Infallible) →
      HasRun tells (RulesOnce (SearchesRule form) (AppliesRule form holds) after rules) (Calls leaves_all) (measures (λ _ _. tt)) p q told → RunsRules form holds after rules tells p q
  runs-rules tells p q told run = record {
    told = told;
    run = run;
    origins = without-hook p.graph q.graph (run-origins form holds rules after grows leaves_all still (measures (λ _ _. tt)) p.limits (reading_in run.readings) run.by_turns);
  }
