-- A graph as lists: what the laws and the contracts of a graph speak of.
use Rattle.std.specs.Prelude.{List, [], ◌∷◌, ◌++◌}
use Rattle.slotted_theory.specs.Nameless.{DTerm}

-- the canonical node of each class, in the order of the class ids
pub record Image : Type 0 where
  pub canonical : List DTerm

-- the graph with one more class, of this canonical node
abbrev pub with_class : Image → DTerm → Image
with_class g c = record g { canonical = g.canonical ++ c ∷ [] }
