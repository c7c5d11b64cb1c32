-- What represents the body of a substitution: a term of a list of pairs, with any names.
--     is_listed X u r      u and r are one of the pairs of X, with other names for those of both together
--     represents X u r     r is u, or u and r are one of the pairs
use Rattle.std.specs.Prelude.{List, [], ◌∷◌, Bool, false, ◌||◌}
use Rattle.slotted_theory.specs.Nameless.{DTerm, stop}
use Rattle.slotted_theory.specs.Shape.{shape}
use Rattle.slotted_theory.proofs.Values.{node, child_before}
use Rattle.slotted_model.specs.Ids.{term_eq}
use Rattle.slotted_model_rules.specs.Instances.{is_itself}

-- the node over both terms: its shape is that of both together
abbrev pub pair_node : DTerm → DTerm → DTerm
pair_node u r = node 0 [] (child_before u (child_before r stop))

-- a pair of the list has this shape
abbrev pub has_shape : List (DTerm × DTerm) → DTerm → Bool
has_shape [] s = false
has_shape (p ∷ rest) s = term_eq (shape (pair_node p.0 p.1)) s || has_shape rest s

-- u and r are a pair of the list, with any names
abbrev pub is_listed : List (DTerm × DTerm) → DTerm → DTerm → Bool
is_listed X u r = has_shape X (shape (pair_node u r))

-- the same, or r is u
abbrev pub represents : List (DTerm × DTerm) → DTerm → DTerm → Bool
represents X u r = is_listed X u r || is_itself u r
