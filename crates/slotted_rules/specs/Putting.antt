-- What is put in the place of a part, where ids may lack names.
--     FillsUnknown t nodes a b     b is a with its missing names: none of them was known to the table t
--     PutsIn m g h b x t a         from g to h the method answers a for b[x := t], where the three get the names that they lack
use Rattle.std.specs.Prelude.{ℕ, List}
use Rattle.slotted_slots.specs.Table.{Table, AllKnown}
use Rattle.slotted_theory.specs.Nameless.{DTerm}
use Rattle.slotted_model.specs.Applied.{Applied}
use Rattle.slotted_model.specs.Filling.{IsFilling}
use Rattle.slotted_graph.specs.Graph.{Graph}
use Rattle.slotted_graph.specs.ValidIds.{IsValidId}
use Rattle.slotted_rules.specs.Building.{Grows}
use Rattle.slotted_rules.specs.Methods.{IsKnownMethod, Method, SubstitutesBy}

abbrev pub FillsUnknown : Table → List DTerm → Applied → Applied → Type 0
FillsUnknown t nodes a b = (given : List ℕ) → AllKnown t given → IsFilling nodes given a b

pub record PutsFilled (m : Method) (g h : Graph) (b x t a : Applied) : Type 0 where
  pub body : Applied
  pub part : Applied
  pub value : Applied
  pub body_fills : FillsUnknown g.table h.image.canonical b body
  pub part_fills : FillsUnknown g.table h.image.canonical x part
  pub value_fills : FillsUnknown g.table h.image.canonical t value
  pub stands : SubstitutesBy m g h body part value a

pub record PutsIn (m : Method) (g h : Graph) (b x t a : Applied) : Type 0 where
  pub grows : Grows g h
  pub valid : IsValidId h a
  pub filled : IsKnownMethod m → PutsFilled m g h b x t a
