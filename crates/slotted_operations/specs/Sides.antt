-- The equation that a union asserts.
--     EntersFilled k l a b text p    the equation of any two ids that fill a and b apart stands at p, with the text if it is new
--     AreSidesOf nodes a b e         e is of full ids that share a name at just the slots at which a and b do
use Rattle.std.specs.Prelude.{◌≡◌, ℕ, List, Option}
use Rattle.slotted_theory.specs.Nameless.{DTerm}
use Rattle.slotted_model.specs.Applied.{Applied}
use Rattle.slotted_model.specs.Classes.{IsFull}
use Rattle.slotted_model.specs.ProofList.{equation_of}
use Rattle.slotted_proofs.specs.declared.equation.Equation.{Equation as Sides}
use Rattle.slotted_proofs.specs.Entries.{asserted_entry}
use Rattle.slotted_proofs.specs.Equations.{to_applied}
use Rattle.slotted_classes.specs.Kept.{Kept, EntersIn}
use Rattle.slotted_operations.specs.Good.{image_of}
use Rattle.slotted_operations.specs.Image.{FillApart}

-- whichever two ids fill a and b apart, their equation stands at p, with the text if it is new, and nothing else changed
abbrev pub EntersFilled : Kept → Kept → Applied → Applied → Option (List ℕ) → ℕ → Type 0
EntersFilled k l a b text p =
    (left right : Applied) → FillApart (image_of k) a b left right → EntersIn k l (asserted_entry left right text) p

-- full ids of the classes of a and b, which share a name at just the slots at which these do
pub record AreSidesOf (nodes : List DTerm) (a b : Applied) (e : Sides) : Type 0 where
  pub left : IsFull nodes (to_applied e.l)
  pub right : IsFull nodes (to_applied e.r)
  pub equation : equation_of (to_applied e.l) (to_applied e.r) ≡ equation_of a b
