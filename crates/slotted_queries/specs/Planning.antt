-- What becomes of a query.
--     StopsPast n g stop                     a run over g stops past n asserted equations
--     leaves_within                          a hook that leaves the graph as it is, and stops a run so
--     RunsRules form holds after rules tells p q   from p to q a runner ran these rules, with `after`, rounds of edits, and each new asserted equation comes from
--                                            a match of one of them whose condition held, or from an edit
--     Gives read asks g h text t id          the term t of the text was added, and the id stands for it; only what the analysis asks for is asserted
--     FindsLeast written costs g h id c text   the text is that of a term of least cost that the id represents in g
--     FollowsIn g t u                        the terms t and u are derivable from any named equations that are the asserted list
--     FindsPlan .. p q text x               the term of the text is added, the rules run, and x has the text of a cheapest term that is equal
--     GiveRefused, LeastRefused              the text was refused, a cost, or memory or slots ran out
--     PlanRefused .. g text e            one of these was refused, or a rule
use Rattle.std.specs.Prelude.{◌≡◌, ◌⊎◌, ◌<◌, ◌≤◌, ℕ, List, length, Bool, Option, None, Some, ⊤, false, map, IsTrue, string_bytes}
use Rattle.std.specs.Str.{chars}
use Rattle.slotted_slots.specs.declared.error.Error.{Error}
use Rattle.slotted_slots.specs.declared.error.Error.TheVariants.{Failed}
use Rattle.slotted_slots.specs.Error.{IsShortage}
use Rattle.slotted_slots.specs.Syntax.{Element}
use Rattle.slotted_theory.specs.Term.{Term}
use Rattle.slotted_theory.specs.Nameless.{nameless}
use Rattle.slotted_theory.specs.Derives.{Derives, nameless_pair}
use Rattle.slotted_nodes.specs.Form.{Form}
use Rattle.slotted_patterns.specs.Outcome.{Refuses, parsed}
use Rattle.slotted_terms.specs.Parsed.{TextReads}
use Rattle.slotted_terms.specs.Shown.{term_text}
use Rattle.slotted_model.specs.Applied.{Applied}
use Rattle.slotted_model.specs.Classes.{term_of}
use Rattle.slotted_model.specs.Cost.{AtMost, CostFunction}
use Rattle.slotted_model_rules.specs.Conditions.{Values}
use Rattle.slotted_model_rules.specs.Runners as model
use Rattle.slotted_costs.specs.Costs.{MayRefuse, cost_of_term}
use Rattle.slotted_proofs.specs.Entries.{explicit_numbers}
use Rattle.slotted_operations.specs.Graph.{Graph, IsFullId, OnlyReads, OnlyTakesSlots}
use Rattle.slotted_operations.specs.Image.{Image, asserted_in}
use Rattle.slotted_graph.specs.LeastTerms.{IsLeastTerm}
use Rattle.slotted_rules.specs.Counting.{AppliesRule, SearchesRule}
use Rattle.slotted_rules.specs.RuleOrigins.{AreFromRulesOrEdits}
use Rattle.slotted_rules.specs.declared.rewrite.Rewrite.{Rewrite}
use Rattle.slotted_rules.specs.Runs.{HasRun}
use Rattle.slotted_rules.specs.Seen.{Parts}
use Rattle.slotted_rules.specs.Turning.{Calls, RulesOnce, measures}
use Rattle.slotted_queries.specs.declared.planner.Effort.{Effort}
use Rattle.slotted_queries.specs.declared.planner.Plan.{Plan}
use Rattle.slotted_queries.specs.declared.planner.Spent.{Spent}

-- what a planner is
abbrev pub State : Type 0 → Type 0
State K = Parts ⊤ Spent Effort K

abbrev pub StopsPast : ℕ → Graph → Option Spent → Type 0
StopsPast n g None = length (explicit_numbers g.image.entries) ≤ n
StopsPast n g (Some reason) = n < length (explicit_numbers g.image.entries)

abbrev pub leaves_within : Effort → Graph → ℕ → Effort → Graph → Option Spent → Type 0
leaves_within h g n i k stop = (k ≡ g) × (i ≡ h) × StopsPast h.equations g stop

pub record RunsRules {L Q K : Type 0} (form : L → Form) (holds : Q → Values → Graph → Bool → Type 0) (after : Graph → Graph → Type 0) (rules : List (Rewrite L Q)) (tells : K → ℕ → K → Type 0) (p q : State K) : Type 0 where
  pub told : model.Report Spent
  pub run : HasRun tells (RulesOnce (SearchesRule form) (AppliesRule form holds) after rules) (Calls leaves_within) (measures (λ _ _. tt)) p q told
  pub origins : AreFromRulesOrEdits form holds rules after p.graph q.graph

pub record Gives (read : List Element → Option Form) (asks : Graph → Graph → Type 0) (g h : Graph) (text : List ℕ) (t : Term) (id : Applied) : Type 0 where
  pub well : g.failed ≡ false
  pub between : Graph
  pub reads : TextReads read g.table (chars text) (parsed t) between.table
  pub only : OnlyReads g between
  pub asked : asks between h
  pub sound : h.failed ≡ false
  pub full : IsFullId h id
  pub term : term_of h.image.canonical id ≡ nameless t

pub record FindsLeast {C : Type 0} (written : Term → List Element) (costs : CostFunction C) (g h : Graph) (id : Applied) (cost : C) (text : List ℕ) : Type 0 where
  pub well : g.failed ≡ false
  pub term : Term
  pub least : IsLeastTerm g costs id term
  pub size : cost ≡ cost_of_term costs term
  pub bytes : text ≡ term_text written h.table term
  pub takes : OnlyTakesSlots g h

abbrev pub FollowsIn : Image → Term → Term → Type 0
FollowsIn g t u = (E : List (Term × Term)) → map nameless_pair E ≡ asserted_in g → Derives E t u

-- the cheapest term follows from what is asserted when the rules have run, and costs no more than the given one
pub record FindsPlan {C K : Type 0} (read : List Element → Option Form) (written : Term → List Element) (costs : CostFunction C) (asks : Graph → Graph → Type 0) (runs : State K → State K → Type 0) (p q : State K) (text : List ℕ) (x : Plan C) : Type 0 where
  pub term : Term
  pub id : Applied
  pub added : Graph
  pub gives : Gives read asks p.graph added text term id
  pub before : x.before ≡ cost_of_term costs term
  pub ran : State K
  pub by_run : runs (record p { graph = added }) ran
  pub best : FindsLeast written costs ran.graph q.graph id x.after (string_bytes x.text)
  pub follows : FollowsIn ran.graph.image term best.term
  pub no_larger : AtMost costs x.after x.before
  pub rest : q ≡ record ran { graph = q.graph }

pub data GiveRefused (read : List Element → Option Form) (cost_refuses : Error → Type 0) (g : Graph) (text : List ℕ) (e : Error) : Type 0 where
  had_failed : IsTrue g.failed → e ≡ Failed → GiveRefused read cost_refuses g text e
  text_refused : (h : Graph) → g.failed ≡ false → Refuses (λ o. TextReads read g.table (chars text) o h.table) e → OnlyReads g h → GiveRefused read cost_refuses g text e
  cost_refused : g.failed ≡ false → MayRefuse cost_refuses e → GiveRefused read cost_refuses g text e
  ran_out : g.failed ≡ false → IsShortage e → GiveRefused read cost_refuses g text e

abbrev pub LeastRefused : (Error → Type 0) → Graph → Error → Type 0
LeastRefused cost_refuses g e = (IsTrue g.failed × (e ≡ Failed)) ⊎ ((g.failed ≡ false) × (IsShortage e ⊎ MayRefuse cost_refuses e))

pub data PlanRefused (read : List Element → Option Form) (cost_refuses rule_refuses : Error → Type 0) (g : Graph) (text : List ℕ) (e : Error) : Type 0 where
  not_given : GiveRefused read cost_refuses g text e → PlanRefused read cost_refuses rule_refuses g text e
  not_run : g.failed ≡ false → IsShortage e ⊎ rule_refuses e → PlanRefused read cost_refuses rule_refuses g text e
  not_found : g.failed ≡ false → IsShortage e ⊎ MayRefuse cost_refuses e → PlanRefused read cost_refuses rule_refuses g text e
