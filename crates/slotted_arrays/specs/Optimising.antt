-- What becomes of a program.
--     Derives form read written costs s v t x    from s to v a cheapest term equal to t is extracted and added, and a chain leads from t to it
--     DeriveRefused .. s v given e               one of these is refused
--     Optimises .. limits s v text x             the program of the text is added, costs so much, the rules run, and then it is derived
--     OptimiseRefused .. limits s v text e       one of these is refused
use Rattle.std.specs.Prelude.{◌≡◌, ℕ, List, Bool, Option, string_bytes}
use Rattle.slotted_slots.specs.Syntax.{Element}
use Rattle.slotted_theory.specs.Term.{Term}
use Rattle.slotted_nodes.specs.Form.{Form}
use Rattle.slotted_model.specs.Cost.{CostFunction}
use Rattle.slotted_slots.specs.declared.error.Error.{Error}
use Rattle.slotted_costs.specs.Costs.{MayRefuse, cost_of_term}
use Rattle.slotted_workspace.specs.Asked.{AddRefused, AddsTerm, ChainRefused, ChainsTerms, ChangesGraph, ExtractByRefused, ExtractsBy, Refuses, RefusesBoth, RefusesOne}
use Rattle.slotted_workspace.specs.Runs.{OfRules, RunRefused}
use Rattle.slotted_workspace.specs.Saturating.{HasRulesRun}
use Rattle.slotted_workspace.specs.Spaces.{Space}
use Rattle.slotted_workspace.specs.declared.error.WorkspaceError.{WorkspaceError}
use Rattle.slotted_workspace.specs.declared.handle.Handle.{Handle}
use Rattle.slotted_workspace.specs.declared.running.Limits.{Limits}
use Rattle.slotted_arrays.specs.declared.optimiser.Derivation.{Derivation}
use Rattle.slotted_arrays.specs.declared.optimiser.Optimised.{Optimised}

-- the extracted term costs least among those that are equal in the graph of s; its text is added, and proved equal
pub record Derives {L C : Type 0} (form : L → Form) (read : List Element → Option Form) (written : Term → List Element) (costs : CostFunction C) (s v : Space) (t : Term) (x : Derivation C) : Type 0 where
  pub extracted : Space
  pub best : ExtractsBy form written costs s.graph extracted.graph t x.best.cost x.best.text
  pub only_extracts : ChangesGraph s extracted
  pub both : Space
  pub found : Handle
  pub adds : AddsTerm read extracted both (string_bytes x.best.text) found
  pub chains : ChainsTerms both.graph v.graph t adds.term
  pub only_chains : ChangesGraph both v

pub data DeriveRefused {L C : Type 0} (form : L → Form) (read : List Element → Option Form) (costs : CostFunction C) (refuses : Error → Type 0) (s v : Space) (given : Handle) (e : WorkspaceError) : Type 0 where
  not_extracted : RefusesOne s v given (ExtractByRefused form costs refuses s.graph v.graph) e → DeriveRefused form read costs refuses s v given e
  not_added_again : (extracted : Space) (text : List ℕ) → ChangesGraph s extracted → Refuses extracted v (AddRefused read extracted.graph v.graph text) e → DeriveRefused form read costs refuses s v given e
  not_chained : (extracted both : Space) (text : List ℕ) (found : Handle) → ChangesGraph s extracted → AddsTerm read extracted both text found → RefusesBoth both v given found (ChainRefused both.graph v.graph) e →
      DeriveRefused form read costs refuses s v given e

pub record Optimises {L C : Type 0} (form : L → Form) (read : List Element → Option Form) (written : Term → List Element) (costs : CostFunction C) (limits : Limits) (s v : Space) (text : List ℕ) (x : Optimised C) : Type 0 where
  pub asked : Space
  pub given : Handle
  pub adds : AddsTerm read s asked text given
  pub before : x.before ≡ cost_of_term costs adds.term
  pub ran : Space
  pub runs : HasRulesRun form limits asked ran x.ended
  pub only_rules : ChangesGraph asked ran
  pub derives : Derives form read written costs ran v adds.term x.derivation

pub data OptimiseRefused {L C : Type 0} (form : L → Form) (read : List Element → Option Form) (costs : CostFunction C) (refuses : Error → Type 0) (limits : Limits) (s v : Space) (text : List ℕ) (e : WorkspaceError) : Type 0 where
  not_added : Refuses s v (AddRefused read s.graph v.graph text) e → OptimiseRefused form read costs refuses limits s v text e
  not_priced : (given : Handle) → AddsTerm read s v text given → RefusesOne v v given (λ _. MayRefuse refuses) e → OptimiseRefused form read costs refuses limits s v text e
  not_run : (asked : Space) (given : Handle) → AddsTerm read s asked text given → Refuses asked v (λ e. OfRules form asked (λ rules. RunRefused form rules limits.turns limits.nodes asked.graph v.graph e)) e →
      OptimiseRefused form read costs refuses limits s v text e
  not_derived : (asked ran : Space) (given : Handle) (ended : Bool) → AddsTerm read s asked text given → HasRulesRun form limits asked ran ended → ChangesGraph asked ran → DeriveRefused form read costs refuses ran v given e →
      OptimiseRefused form read costs refuses limits s v text e
