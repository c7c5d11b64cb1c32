-- What calls of a workspace answer that decide symmetries.
--     NeverFollows g t u          the terms t and u are derivable from no named equations that are the asserted list
--     DecidesGraph g h y          from g to h nothing is asserted; after a yes the graph is decided; a graph that was takes slots alone
--     JudgesTerms g h t u v       the graph was decided, from g to h; a yes and a no about two terms are right, without exception; else they are not equal up to symmetries
--     ProvesTerms written g h t u x      so it was; a yes has a printed proof, and a no is right; else they are not equal up to symmetries
--     DecideRefused g h e         the graph had failed; or memory or slots ran out, or a step did not fit
--     RunsDecided form rules limits g h r     these rules were run, and the graph was decided after each turn; each new asserted equation comes from one of them
--     ExtractsDecided written costs g h t x      the graph was decided, from g to h, and x has a term of least cost that follows; after a yes no term that follows costs less
--     ExtractDecidedRefused ..    such an extraction was refused
--     DecidedRunRefused ..        such a run was refused
use Rattle.std.specs.Prelude.{◌≡◌, ◌⊎◌, ℕ, Bool, List, Some, false, map, IsTrue, String, string_bytes}
use Rattle.slotted_slots.specs.declared.error.Error.{Error}
use Rattle.slotted_slots.specs.Syntax.{Element}
use Rattle.slotted_theory.specs.Derives.{Derives, nameless_pair}
use Rattle.slotted_theory.specs.Term.{Term}
use Rattle.slotted_nodes.specs.Form.{Form}
use Rattle.slotted_terms.specs.Shown.{term_text}
use Rattle.slotted_terms.specs.Valid.{IsValidTerm}
use Rattle.slotted_model.specs.Applied.{Applied}
use Rattle.slotted_model.specs.Cost.{AtMost, CostFunction}
use Rattle.slotted_costs.specs.Costs.{MayRefuse, cost_of_term}
use Rattle.slotted_operations.specs.Graph.{Graph, OnlyTakesSlots, id_of_term}
use Rattle.slotted_operations.specs.Image.{Image, asserted_in}
use Rattle.slotted_graph.specs.Extension.{ExtendsTo}
use Rattle.slotted_graph.specs.LeastTerms.{IsLeastTerm}
use Rattle.slotted_explain.specs.Printed.{IsProofText}
use Rattle.slotted_rules.specs.Applying.{AreRefusedBy, NeverModified}
use Rattle.slotted_rules.specs.Counting.{RefusesRule}
use Rattle.slotted_rules.specs.RuleOrigins.{AreFromRules}
use Rattle.slotted_rules.specs.declared.rewrite.Rewrite.{Rewrite}
use Rattle.slotted_deciding.specs.Equality.{IsDecidedGraph}
use Rattle.slotted_deciding.specs.Asking.{AreApart, IsProved}
use Rattle.slotted_deciding.specs.Steps.{CanRefuse, GoesTo}
use Rattle.slotted_deciding.specs.declared.asking.Verdict.{Verdict}
use Rattle.slotted_deciding.specs.declared.asking.Verdict.TheVariants.{No, Open, Yes}
use Rattle.slotted_decided.specs.Turns.{HasRunDecided}
use Rattle.slotted_decided.specs.declared.running.DecidedLimits.{DecidedLimits}
use Rattle.slotted_decided.specs.declared.running.DecidedRun.{DecidedRun}
use Rattle.slotted_workspace.specs.Asked.{FollowsIn, HadFailed}
use Rattle.slotted_workspace.specs.declared.deciding.ExplainedText.{ExplainedText}
use Rattle.slotted_workspace.specs.declared.extracting.LeastText.{LeastText}
use Rattle.slotted_workspace.specs.declared.deciding.ExplainedText.TheVariants.{Proved, Undecided, Unequal}
use Rattle.slotted_workspace.specs.declared.sparing.RuleCondition.{RuleCondition}
use Rattle.slotted_workspace.specs.Sparing.{AnswersRule, RuleRefuses}

abbrev pub NeverFollows : Image → Term → Term → Type 0
NeverFollows g t u = (E : List (Term × Term)) → map nameless_pair E ≡ asserted_in g → ¬ Derives E t u

abbrev pub SaysOfTerms : Image → Term → Term → Verdict → Type 0
SaysOfTerms g t u Yes = FollowsIn g t u
SaysOfTerms g t u No = NeverFollows g t u
SaysOfTerms g t u Open = AreApart g t u

pub record DecidesGraph (g h : Graph) (y : Bool) : Type 0 where
  pub well : g.failed ≡ false
  pub goes : GoesTo g h
  pub decided : IsTrue y → IsDecidedGraph h
  pub kept : IsDecidedGraph g → OnlyTakesSlots g h

pub record JudgesTerms (g h : Graph) (t u : Term) (v : Verdict) : Type 0 where
  pub well : g.failed ≡ false
  pub goes : GoesTo g h
  pub says : SaysOfTerms h.image t u v

-- the graph goes to one in which the entry says that the terms are equal, and then the proof is printed
pub record IsPrintedProof (written : Term → List Element) (g h : Graph) (t u : Term) (text : List ℕ) : Type 0 where
  pub number : ℕ
  pub between : Graph
  pub goes : GoesTo g between
  pub proved : IsProved between.image t u number
  pub follows : FollowsIn between.image t u
  pub printed : IsProofText written between h number text
  pub takes : OnlyTakesSlots between h

abbrev pub ProvesTerms : (Term → List Element) → Graph → Graph → Term → Term → ExplainedText → Type 0
ProvesTerms written g h t u (Proved text) = IsPrintedProof written g h t u (string_bytes text)
ProvesTerms written g h t u Unequal = GoesTo g h × NeverFollows h.image t u
ProvesTerms written g h t u Undecided = GoesTo g h × AreApart h.image t u

abbrev pub DecideRefused : Graph → Graph → Error → Type 0
DecideRefused g h e = HadFailed g h e ⊎ ((g.failed ≡ false) × CanRefuse e)

pub record RunsDecided {L : Type 0} (form : L → Form) (rules : List (Rewrite L (RuleCondition L))) (limits : DecidedLimits) (g h : Graph) (r : DecidedRun) : Type 0 where
  pub well : g.failed ≡ false
  pub run : HasRunDecided form (AnswersRule form) rules (NeverModified L) limits g h r
  pub origins : AreFromRules form (AnswersRule form) rules g h

abbrev pub DecidedRunRefused : {L : Type 0} → (L → Form) → List (Rewrite L (RuleCondition L)) → Graph → Graph → Error → Type 0
DecidedRunRefused form rules g h e =
    HadFailed g h e ⊎ ((g.failed ≡ false) × (IsTrue h.failed ⊎ ExtendsTo g h) × (CanRefuse e ⊎ AreRefusedBy (RefusesRule form (λ c s _. RuleRefuses c s)) rules e))

pub record ExtractsDecided {C : Type 0} (written : Term → List Element) (costs : CostFunction C) (g h : Graph) (t : Term) (x : LeastText C) : Type 0 where
  pub well : g.failed ≡ false
  pub between : Graph
  pub goes : GoesTo g between
  pub id : Applied
  pub is_id : id_of_term between t ≡ Some id
  pub term : Term
  pub least : IsLeastTerm between costs id term
  pub size : x.cost ≡ cost_of_term costs term
  pub no_larger : AtMost costs x.cost (cost_of_term costs t)
  pub follows : FollowsIn between.image t term
  pub decided : IsTrue x.is_decided → IsDecidedGraph between
  pub least_of_all : IsTrue x.is_decided → (u : Term) (E : List (Term × Term)) → map nameless_pair E ≡ asserted_in between.image → Derives E t u → AtMost costs x.cost (cost_of_term costs u)
  pub known : IsValidTerm h.table term
  pub bytes : string_bytes x.text ≡ term_text written h.table term
  pub takes : OnlyTakesSlots between h

abbrev pub ExtractDecidedRefused : (Error → Type 0) → Graph → Graph → Error → Type 0
ExtractDecidedRefused refuses g h e = HadFailed g h e ⊎ ((g.failed ≡ false) × (IsTrue h.failed ⊎ ExtendsTo g h) × (CanRefuse e ⊎ MayRefuse refuses e))
