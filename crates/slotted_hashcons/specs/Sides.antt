-- The equation of two classes whose nodes have one shape in normal form.
--     HaveOneShape k i m j n    m and n have the slots of the classes i and j for the numbers of one shape
--     number_partners m n right for each slot of an id that has a number in n the slot with the number in m
--     AreTwinSides k i j e      e pairs the slots that have one number
--     HaveManySlots k i j       the two classes have too many canonical slots together to be numbered
use Rattle.std.specs.Prelude.{◌≡◌, ◌≤◌, ◌+◌, ◌↔◌, ℕ, List, Contains, length}
use Rattle.slotted_slots.specs.Table.{slot_limit}
use Rattle.slotted_nodes.specs.Form.{Form}
use Rattle.slotted_model.specs.Classes.{IsFull, canonical_slots}
use Rattle.slotted_model.specs.Correspondence.{composite, same_names}
use Rattle.slotted_model.specs.Normal.{HasNormalTwin, HasOneNumber}
use Rattle.slotted_proofs.specs.declared.equation.Equation.{Equation as Sides}
use Rattle.slotted_proofs.specs.Equations.{to_applied, pairs_of}
use Rattle.slotted_classes.specs.Kept.{Kept, nodes_of, entries_of}
use Rattle.slotted_hashcons.specs.FoundNodes.{IsFoundNode}

-- the normal forms of the nodes of both classes have one shape, with these slots for its numbers
abbrev pub HaveOneShape : Kept → ℕ → List (ℕ × ℕ) → ℕ → List (ℕ × ℕ) → Type 0
HaveOneShape k i m j n = (f : Form) × IsFoundNode k i f m × IsFoundNode k j f n

-- for each slot of the right id that has a number the slot of the left class with the number
abbrev pub number_partners : List (ℕ × ℕ) → List (ℕ × ℕ) → List (ℕ × ℕ) → List (ℕ × ℕ)
number_partners m n right = composite (same_names right n) m

-- full ids of the two classes, whose nodes have one normal form with these names, and which share a name just where two slots have one number
pub record AreTwinSides (k : Kept) (i j : ℕ) (e : Sides) : Type 0 where
  pub left_class : e.l.id.0 ≡ i
  pub right_class : e.r.id.0 ≡ j
  pub left : IsFull (nodes_of k) (to_applied e.l)
  pub twins : HasNormalTwin (nodes_of k) (entries_of k) (to_applied e.l) (to_applied e.r)
  pub pairs : (s t : ℕ) → Contains (pairs_of e) (s, t) ↔ HasOneNumber (entries_of k) (nodes_of k) i j s t

abbrev pub HaveManySlots : Kept → ℕ → ℕ → Type 0
HaveManySlots k i j = slot_limit ≤ length (canonical_slots (nodes_of k) i) + length (canonical_slots (nodes_of k) j)
