-- The value of a tree in a graph some of whose classes are marked, as those that an open symmetry affects are.
-- A value is a nameless term again, so it moves with names as each term does: the term `fixed`, an applied id, or a node over values.
--     fixed                          the one value of all trees with a marked part
--     step look marked d             the value of a node over the values of its children
--     value_of_term look marked t    the value of a tree, from the bottom up
use Rattle.std.specs.Prelude.{ℕ, [], Option, Some, None, Bool, false, ◌||◌, cond, nat_lt}
use Rattle.slotted_theory.specs.Nameless.{DArgs, DTerm, stop, place, sub, scope}
use Rattle.slotted_theory.proofs.Values.{node, value}
use Rattle.slotted_model.specs.Applied.{Applied, as_term}
use Rattle.slotted_model.specs.Ids.{term_eq}

-- the value of a tree with a marked part: it has the operator of ids, but is none
abbrev pub fixed : DTerm
fixed = node 0 [] stop

-- whether some child passes the test
abbrev pub some_child : (DTerm → Bool) → DArgs → Bool
some_child test stop = false
some_child test (place x rest) = some_child test rest
some_child test (sub op payloads args rest) = test (node op payloads args) || some_child test rest
some_child test (scope inner rest) = some_child test inner || some_child test rest

-- whether some child is fixed
abbrev pub has_fixed : DArgs → Bool
has_fixed d = some_child (λ c. term_eq c fixed) d

-- whether some child is a node of the language
abbrev pub has_node : DArgs → Bool
has_node d = some_child (λ c. nat_lt 0 c.op) d

-- an id as a value: fixed if its class is marked
abbrev pub id_value : (ℕ → Bool) → Applied → DTerm
id_value marked a = cond (marked a.0) fixed (as_term a)

-- the answer for a node as a value, or where there is none the node itself
abbrev pub answer_value : (ℕ → Bool) → Option Applied → DTerm → DTerm
answer_value marked None d = d
answer_value marked (Some a) d = id_value marked a

-- the value of a node over values: fixed if some child is; else, if all children are ids, what its look-up gives; else the node itself
abbrev pub step : (DTerm → Option Applied) → (ℕ → Bool) → DTerm → DTerm
step look marked d = cond (has_fixed d.args) fixed (cond (has_node d.args) d (answer_value marked (look d) d))

-- the value of a tree: each node's step over the values of its children
abbrev pub value_of_term : (DTerm → Option Applied) → (ℕ → Bool) → DTerm → DTerm
value_of_term look marked t = value (step look marked) t
