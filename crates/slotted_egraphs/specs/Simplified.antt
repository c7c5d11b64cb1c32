-- What a caller that simplifies by rules says.
--     IsSimplified h t u p    the entry p says that t and u are equal, and u costs least of what t's id represented once the rules had run
use Rattle.std.specs.Prelude.{◌≡◌, ℕ, Some}
use Rattle.std.specs.Ordering.{nat_cmp}
use Rattle.slotted_theory.specs.Term.{Term}
use Rattle.slotted_model.specs.Applied.{Applied}
use Rattle.slotted_costs.specs.Costs.{costs_by}
use Rattle.slotted_costs.specs.Size.{size_cost}
use Rattle.slotted_operations.specs.Explaining.{Explains}
use Rattle.slotted_operations.specs.Graph.{Graph}
use Rattle.slotted_graph.specs.Extension.{ExtendsTo}
use Rattle.slotted_graph.specs.LeastTerms.{IsLeastTerm}
use Rattle.slotted_operations.specs.LookUp.{look_up_term}

pub record IsSimplified (h : Graph) (t u : Term) (p : ℕ) : Type 0 where
  pub explains : Explains h.image t u p
  pub added : Graph
  pub id : Applied
  pub looked_up : look_up_term added t ≡ Some id
  pub run : Graph
  pub grows : ExtendsTo added run
  pub least : IsLeastTerm run (costs_by nat_cmp size_cost) id u
