-- What an extraction of an id answers over a graph, and what it leaves of it.
--     sizes                         costs that count nodes, up to the largest number
--     TakesForSmallest k a h        from k to h at most two fresh slots are made for each place of the nodes of such a term
--     LacksForSmallest k a h        fewer were left, or a node of least cost has too many places
--     IsSmallest k a n t h          t is a term of the fewest nodes that the id a represents in k, and n counts them
--     ExtractionAnswers w k a h x   an extraction of a over k answers x, and leaves h
use Rattle.std.specs.Prelude.{◌≡◌, ◌⊎◌, ℕ, List, String, string_bytes}
use Rattle.std.specs.declared.alloc.Global.{Global}
use Rattle.std.specs.Ordering.{nat_cmp}
use Rattle.slotted_theory.specs.Term.{Term}
use Rattle.slotted_slots.specs.declared.error.Error.{Error}
use Rattle.slotted_slots.specs.declared.error.Error.TheVariants.{OutOfSlots}
use Rattle.slotted_slots.specs.Error.{IsShortage}
use Rattle.slotted_slots.specs.Syntax.{Element}
use Rattle.slotted_nodes.specs.Form.{Form}
use Rattle.slotted_terms.specs.Shown.{term_text}
use Rattle.slotted_terms.specs.Valid.{IsValidTerm}
use Rattle.slotted_model.specs.Applied.{Applied}
use Rattle.slotted_model.specs.Cost.{CostFunction}
use Rattle.slotted_costs.specs.Costs.{costs_by, cost_of_term}
use Rattle.slotted_costs.specs.Size.{size_cost}
use Rattle.slotted_explain.specs.Graph.{Graph, OnlyTakesSlots}
use Rattle.slotted_explain.specs.LeastTerms.{IsLeastTerm, MakesForLeast, RunsOutForLeast}
use Rattle.slotted_commands.specs.declared.answer.Answer.{Answer}
use Rattle.slotted_commands.specs.declared.answer.Answer.TheVariants.{Extracted, Refused}

abbrev pub sizes : CostFunction ℕ
sizes = costs_by nat_cmp size_cost

-- by entries that speak of forms of nodes, since no language is at hand

abbrev pub TakesForSmallest : Graph → Applied → Graph → Type 0
TakesForSmallest k a h = (h.table ≡ k.table) ⊎ MakesForLeast (λ (f : Form). f) sizes a k h

abbrev pub LacksForSmallest : Graph → Applied → Graph → Type 0
LacksForSmallest k a h = RunsOutForLeast (λ (f : Form). f) sizes a k h

-- the graph h that is left knows each slot of the term, so none prints as `$?`
pub record IsSmallest (k : Graph) (a : Applied) (n : ℕ) (t : Term) (h : Graph) : Type 0 where
  pub least : IsLeastTerm k sizes a t
  pub size : n ≡ cost_of_term sizes t
  pub known : IsValidTerm h.table t

-- the text is the print of such a term over h, and nothing but fresh slots was made for it, no more than it takes
pub record PrintsSmallest (written : Term → List Element) (k : Graph) (a : Applied) (n : ℕ) (text : String Global) (h : Graph) : Type 0 where
  pub term : Term
  pub smallest : IsSmallest k a n term h
  pub bytes : string_bytes text ≡ term_text written h.table term
  pub takes : OnlyTakesSlots k h
  pub count : TakesForSmallest k a h

-- extracting or printing runs out of memory or slots, which does not fail the graph
pub record ExtractionRunsOut (k : Graph) (a : Applied) (e : Error) (h : Graph) : Type 0 where
  pub shortage : IsShortage e
  pub cause : e ≡ OutOfSlots → LacksForSmallest k a h
  pub takes : OnlyTakesSlots k h
  pub count : TakesForSmallest k a h

-- what an extraction of the id a over k answers, and the graph h that it leaves
pub data ExtractionAnswers (written : Term → List Element) (k : Graph) (a : Applied) (h : Graph) : Answer → Type 0 where
  extracted : {n : ℕ} {text : String Global} → PrintsSmallest written k a n text h → ExtractionAnswers written k a h (Extracted n text)
  extraction_ran_out : {e : Error} → ExtractionRunsOut k a e h → ExtractionAnswers written k a h (Refused e)
