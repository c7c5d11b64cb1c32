-- The costs of a language's nodes, in the words of the model.
--     costs_by cmp w      costs in the order cmp: a node costs what w makes of the bare node and of its children's costs
--     cost_of_term k t    the cost of a term
use Rattle.std.specs.Prelude.{◌⊎◌, List}
use Rattle.std.specs.Ordering.{is_le}
use Rattle.std.specs.declared.cmp.Ordering.{Ordering}
use Rattle.slotted_slots.specs.Error.{IsOutOfMemory}
use Rattle.slotted_slots.specs.declared.error.Error.{Error}
use Rattle.slotted_theory.specs.Nameless.{DTerm, nameless}
use Rattle.slotted_theory.specs.Term.{Term}
use Rattle.slotted_model.specs.Cost.{CostFunction, tree_cost}
pub use Rattle.slotted_outlines.specs.BareNodes.{bare, bare_node, HasValuesFor}

-- costs in this order, by what a node costs of what is left of it and of the costs of its children
abbrev pub costs_by : {C : Type 0} → (C → C → Ordering) → (DTerm → List C → C) → CostFunction C
costs_by cmp w = record { is_at_most = λ x y. is_le (cmp x y); node_cost = λ d xs. w (bare d) xs }

-- the cost of a term, from the bottom up
abbrev pub cost_of_term : {C : Type 0} → CostFunction C → Term → C
cost_of_term k t = tree_cost k (nameless t)

-- a growth was refused, or a cost
abbrev pub MayRefuse : (Error → Type 0) → Error → Type 0
MayRefuse refuses e = IsOutOfMemory e ⊎ refuses e
