-- What is extracted from a graph that is decided first.
--     CostsLeastOfEqual g costs a t        no term that is equal by what is asserted to what the id stands for costs less than t
--     IsLeastDecided costs g h a t y       nothing is asserted from g to h; t is of least cost there among what the id represents, and after a yes among all equal terms
use Rattle.std.specs.Prelude.{◌≡◌, Bool, IsTrue}
use Rattle.slotted_theory.specs.Derives.{Equal}
use Rattle.slotted_theory.specs.Nameless.{nameless}
use Rattle.slotted_theory.specs.Term.{Term}
use Rattle.slotted_model.specs.Applied.{Applied}
use Rattle.slotted_model.specs.Classes.{term_of}
use Rattle.slotted_model.specs.Cost.{AtMost, CostFunction}
use Rattle.slotted_costs.specs.Costs.{cost_of_term}
use Rattle.slotted_operations.specs.Graph.{Graph, OnlyTakesSlots}
use Rattle.slotted_operations.specs.Image.{asserted_in}
use Rattle.slotted_graph.specs.LeastTerms.{IsFullBeside, IsLeastTerm}
use Rattle.slotted_deciding.specs.Equality.{IsDecidedGraph}
use Rattle.slotted_deciding.specs.Steps.{GoesTo}

abbrev pub CostsLeastOfEqual : {C : Type 0} → Graph → CostFunction C → Applied → Term → Type 0
CostsLeastOfEqual g costs a t =
    (b : Applied) → IsFullBeside g a b → (u : Term) → Equal (asserted_in g.image) (term_of g.image.canonical b) (nameless u) →
    AtMost costs (cost_of_term costs t) (cost_of_term costs u)

pub record IsLeastDecided {C : Type 0} (costs : CostFunction C) (g h : Graph) (a : Applied) (t : Term) (is_decided : Bool) : Type 0 where
  pub between : Graph
  pub goes : GoesTo g between
  pub takes : OnlyTakesSlots between h
  pub least : IsLeastTerm between costs a t
  pub decided : IsTrue is_decided → IsDecidedGraph between × CostsLeastOfEqual between costs a t
