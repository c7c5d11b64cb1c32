-- A cheapest term of an id, and of a text, over a graph of any analysis.
--     AddsText read g h text t id            the term t of the text was added, with this id, and what was there stays
--     CheapestOf .. g h id cost printed      the text is that of a term of least cost that the id represents in g
--     FindsCheapest .. g h text cost printed the term of the text is added to g, the graph grows, and then a cheapest term is extracted
use Rattle.std.specs.Prelude.{◌≡◌, ◌⊎◌, ℕ, List, Option, Some, false, String, string_bytes}
use Rattle.std.specs.declared.alloc.Global.{Global}
use Rattle.slotted_slots.specs.Syntax.{Element}
use Rattle.slotted_theory.specs.Term.{Term}
use Rattle.slotted_theory.specs.Nameless.{nameless}
use Rattle.slotted_nodes.specs.Form.{Form}
use Rattle.slotted_terms.specs.Shown.{term_text}
use Rattle.slotted_terms.specs.Valid.{IsValidTerm}
use Rattle.slotted_model.specs.Applied.{Applied}
use Rattle.slotted_model.specs.Classes.{term_of}
use Rattle.slotted_model.specs.Cost.{CostFunction}
use Rattle.slotted_costs.specs.Costs.{cost_of_term}
use Rattle.slotted_operations.specs.Graph.{Graph, IsFullId, OnlyTakesSlots, id_of_term}
use Rattle.slotted_graph.specs.Extension.{ExtendsTo}
use Rattle.slotted_graph.specs.LeastTerms.{IsLeastTerm, MakesForLeast}
use Rattle.slotted_commands.specs.Sessions.{WritesTerm}
use Rattle.slotted_workspace.specs.Asked.{ExtractsBy}

pub record AddsText (read : List Element → Option Form) (g h : Graph) (text : List ℕ) (t : Term) (id : Applied) : Type 0 where
  pub well : g.failed ≡ false
  pub between : Graph
  pub writes : WritesTerm read g text t between
  pub grows : ExtendsTo between h
  pub full : IsFullId h id
  pub term : term_of h.image.canonical id ≡ nameless t
  pub found : id_of_term h t ≡ Some id
  pub valid : IsValidTerm h.table t

pub record CheapestOf {L C : Type 0} (form : L → Form) (written : Term → List Element) (costs : CostFunction C) (g h : Graph) (id : Applied) (cost : C) (printed : String Global) : Type 0 where
  pub well : g.failed ≡ false
  pub term : Term
  pub least : IsLeastTerm g costs id term
  pub size : cost ≡ cost_of_term costs term
  pub known : IsValidTerm h.table term
  pub bytes : string_bytes printed ≡ term_text written h.table term
  pub takes : OnlyTakesSlots g h
  pub count : (h ≡ g) ⊎ MakesForLeast form costs id g h

-- what was added and found equal stays so while the graph grows
pub record FindsCheapest {L C : Type 0} (form : L → Form) (read : List Element → Option Form) (written : Term → List Element) (costs : CostFunction C) (g h : Graph) (text : List ℕ) (cost : C) (printed : String Global) : Type 0 where
  pub term : Term
  pub id : Applied
  pub added : Graph
  pub adds : AddsText read g added text term id
  pub ran : Graph
  pub grows : ExtendsTo added ran
  pub best : ExtractsBy form written costs ran h term cost printed
