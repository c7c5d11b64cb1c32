-- Terms of least cost, for callers of a graph.
--     AreLeastOf form g costs es      the entries are of least cost in the graph: what is extracted by them costs least
--     AreChosenOf form order g costs es   where filed nodes of a class cost the least over children that all cost less, its entry is of the first of them by the order of the language
--     IsOfChosen form order g costs a t   the term is made of the nodes of such entries: each has the operator, the payloads and the children of its class's entry
--     HasEachLiveClass g es           each live class has an entry
--     IsEqualTo g a t                 the term is equal to what the id stands for, whatever names are filled in for those that it lacks
--     IsLeastTerm g costs a t         the term is looked up as what the id finds, is equal to it, and no other that is costs less
--     CostsAsEntered costs es c t     the term costs what the entry of the class says
--     MakesForExtracted form es a g h     from g to h no more fresh slots are made than two for each place of the nodes of the term
--     RunsOutForExtracted form es a g h   fewer were left, or the key of an entry has too many places to be numbered
--     MakesForLeast, RunsOutForLeast      the same for some entries of least cost
use Rattle.std.specs.Prelude.{◌≡◌, ◌<◌, ℕ, List, Option, None, Some, length}
use Rattle.std.specs.declared.cmp.Ordering.{Ordering}
use Rattle.slotted_theory.specs.Derives.{Equal}
use Rattle.slotted_theory.specs.Nameless.{DTerm, nameless}
use Rattle.slotted_theory.specs.Term.{Term}
use Rattle.slotted_nodes.specs.Form.{Form}
use Rattle.slotted_model.specs.Applied.{Applied}
use Rattle.slotted_model.specs.Classes.{IsFull, term_of}
use Rattle.slotted_model.specs.Cost.{AtMost, CostFunction, tree_cost}
use Rattle.slotted_model.specs.Trees.{IsTree}
use Rattle.slotted_classes.specs.Kept.{Kept}
use Rattle.slotted_hashcons.specs.FiledRows.{Rows, rows_in}
use Rattle.slotted_costs.specs.Costs.{cost_of_term}
use Rattle.slotted_operations.specs.Affected.{IsAffected}
use Rattle.slotted_operations.specs.Causes.{class_found}
use Rattle.slotted_operations.specs.Good.{Good, RestsWith, image_of}
use Rattle.slotted_operations.specs.Graph.{Graph, MakesAtMost}
use Rattle.slotted_operations.specs.Image.{asserted_in, found_id}
use Rattle.slotted_operations.specs.LookUp.{look_up_term}
use Rattle.slotted_operations.specs.ValidIds.{Fills}
use Rattle.slotted_graph.specs.Chosen.{AreChosen}
use Rattle.slotted_graph.specs.Least.{AreLeast}
use Rattle.slotted_graph.specs.Terms.{IsMade, RunsOutWith, entry_at, slots_for}
pub use Rattle.slotted_graph.specs.declared.entry.TermEntry.{TermEntry}

pub record AreLeastOf {L C : Type 0} (form : L → Form) (g : Graph) (costs : CostFunction C) (es : List (Option (TermEntry L C))) : Type 0 where
  pub kept : Kept
  pub rows : Rows
  pub good : Good kept
  pub rests : RestsWith kept rows
  pub image : image_of kept ≡ g.image
  pub filed : rows_in rows.filed ≡ g.filed
  pub least : AreLeast form kept rows costs es

abbrev pub AreChosenOf : {L C : Type 0} → (L → Form) → (L → L → Ordering) → Graph → CostFunction C → List (Option (TermEntry L C)) → Type 0
AreChosenOf form order g costs es = AreChosen form order costs (class_found g.image) g.filed es

-- whatever became of the graph since, the term is made of the entries, from that of the class that the id finds on
abbrev pub IsMadeOf : {L C : Type 0} → (L → Form) → Graph → List (Option (TermEntry L C)) → Applied → Term → Type 0
IsMadeOf form g es a t = IsMade form es (found_id g.image a) t

pub record IsOfChosen {L C : Type 0} (form : L → Form) (order : L → L → Ordering) (g : Graph) (costs : CostFunction C) (a : Applied) (t : Term) : Type 0 where
  pub entries : List (Option (TermEntry L C))
  pub least : AreLeastOf form g costs entries
  pub chosen : AreChosenOf form order g costs entries
  pub made : IsMadeOf form g entries a t

-- a class that finds itself
abbrev pub IsLiveIn : Graph → ℕ → Type 0
IsLiveIn g c = (c < length g.image.canonical) × (class_found g.image c ≡ c)

abbrev pub HasEachLiveClass : {L C : Type 0} → Graph → List (Option (TermEntry L C)) → Type 0
HasEachLiveClass {L} {C} g es = (c : ℕ) → IsLiveIn g c → (e : TermEntry L C) × (entry_at es c ≡ Some e)

abbrev pub IsEqualTo : Graph → Applied → DTerm → Type 0
IsEqualTo g a t = (b : Applied) → Fills g.image a b → Equal (asserted_in g.image) (term_of g.image.canonical b) t

-- a full id that finds the class that the id a finds
abbrev pub IsFullBeside : Graph → Applied → Applied → Type 0
IsFullBeside g a b = IsFull g.image.canonical b × (class_found g.image b.0 ≡ class_found g.image a.0)

pub record IsLeastTerm {C : Type 0} (g : Graph) (costs : CostFunction C) (a : Applied) (t : Term) : Type 0 where
  pub represented : look_up_term g t ≡ Some (found_id g.image a)
  pub equal : IsEqualTo g a (nameless t)
  -- no term that is looked up as an id of the found class costs less
  pub least : (u : Term) (b : Applied) → look_up_term g u ≡ Some b → b.0 ≡ class_found g.image a.0 →
      AtMost costs (cost_of_term costs t) (cost_of_term costs u)
  -- nor does the canonical term of an id that finds this class, also while symmetries are open
  pub canonical : (b : Applied) → IsFullBeside g a b → AtMost costs (cost_of_term costs t) (tree_cost costs (term_of g.image.canonical b))
  -- nor does any term that is equal to one of these, if no open symmetry affects the class
  pub of_equal : ¬ IsAffected g.image (class_found g.image a.0) → (b : Applied) → IsFullBeside g a b → (u : DTerm) → IsTree u →
      Equal (asserted_in g.image) (term_of g.image.canonical b) u → AtMost costs (cost_of_term costs t) (tree_cost costs u)

abbrev pub CostsAsEntered : {L C : Type 0} → CostFunction C → List (Option (TermEntry L C)) → ℕ → Term → Type 0
CostsAsEntered {L} {C} costs es c t = (e : TermEntry L C) → entry_at es c ≡ Some e → e.cost ≡ cost_of_term costs t

-- where the entries are of least cost in the graph, the term is of least cost, and costs what the found class's entry says
abbrev pub IsExtracted : {L C : Type 0} → (L → Form) → Graph → List (Option (TermEntry L C)) → Applied → Term → Type 0
IsExtracted {L} {C} form g es a t =
    (costs : CostFunction C) → AreLeastOf form g costs es → IsLeastTerm g costs a t × CostsAsEntered costs es (class_found g.image a.0) t

-- the class that the id finds has no entry
abbrev pub LacksEntry : {L C : Type 0} → Graph → List (Option (TermEntry L C)) → Applied → Type 0
LacksEntry g es a = entry_at es (class_found g.image a.0) ≡ None

abbrev pub MakesForExtracted : {L C : Type 0} → (L → Form) → List (Option (TermEntry L C)) → Applied → Graph → Graph → Type 0
MakesForExtracted form es a g h = MakesAtMost (slots_for form es (class_found g.image a.0)) g.table h.table

abbrev pub RunsOutForExtracted : {L C : Type 0} → (L → Form) → List (Option (TermEntry L C)) → Applied → Graph → Graph → Type 0
RunsOutForExtracted form es a g h = RunsOutWith form es (slots_for form es (class_found g.image a.0)) g.table h.table

pub record MakesForLeast {L C : Type 0} (form : L → Form) (costs : CostFunction C) (a : Applied) (g h : Graph) : Type 0 where
  pub entries : List (Option (TermEntry L C))
  pub least : AreLeastOf form g costs entries
  pub makes : MakesForExtracted form entries a g h

pub record RunsOutForLeast {L C : Type 0} (form : L → Form) (costs : CostFunction C) (a : Applied) (g h : Graph) : Type 0 where
  pub entries : List (Option (TermEntry L C))
  pub least : AreLeastOf form g costs entries
  pub runs_out : RunsOutForExtracted form entries a g h
