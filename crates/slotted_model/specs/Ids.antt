-- The applied id that stands for a node over applied ids, or for a tree, by the shapes of the canonical nodes.
use Rattle.std.specs.Prelude.{ℕ, suc, List, [], ◌∷◌, Option, Some, None, Bool, cond, option_map, slice_index_or}
use Rattle.slotted_theory.specs.Nameless.{DTerm, stop}
use Rattle.slotted_theory.specs.Shape.{free_names, number_in, shape}
use Rattle.slotted_theory.specs.Decided.{args_eq}
use Rattle.slotted_theory.proofs.Values.{child_before}
use Rattle.slotted_model.specs.Applied.{Applied, map_on}
use Rattle.slotted_model.specs.Classes.{canonical_node, canonical_slots}
use Rattle.slotted_model.specs.LookUp.{look_up}

-- whether two terms are the same
abbrev pub term_eq : DTerm → DTerm → Bool
term_eq d e = args_eq (child_before d stop) (child_before e stop)

-- the first of the nodes that has this shape
abbrev pub first_shaped : DTerm → List DTerm → Option ℕ
first_shaped s [] = None
first_shaped s (c ∷ cs) = cond (term_eq (shape c) s) (Some 0) (option_map suc (first_shaped s cs))

-- the name that d has where c has the name x first
abbrev pub name_for : DTerm → DTerm → ℕ → ℕ
name_for c d x = slice_index_or (free_names d.args) (number_in (free_names c.args) x) 0

-- the class i with the names of the node d, which has the shape of its canonical node
abbrev pub class_with_names : List DTerm → DTerm → ℕ → Applied
class_with_names nodes d i = (i, map_on (name_for (canonical_node nodes i) d) (canonical_slots nodes i))

-- the class whose canonical node has the shape of this node, with the node's names put in
abbrev pub id_of_node : List DTerm → DTerm → Option Applied
id_of_node nodes d = option_map (class_with_names nodes d) (first_shaped (shape d) nodes)

-- the same for a tree, from the bottom up
abbrev pub id_of : List DTerm → DTerm → Option Applied
id_of nodes t = look_up (id_of_node nodes) t
