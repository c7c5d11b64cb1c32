-- What makes the entries of a proof list proved in a graph.
use Rattle.std.specs.Prelude.{◌≡◌, ℕ, ◌<◌, List, length}
use Rattle.slotted_theory.specs.Nameless.{DTerm}
use Rattle.slotted_model.specs.Classes.{canonical_slots}
use Rattle.slotted_model.specs.ProofList.{IsOver, IsStepFor, Proved}
use Rattle.slotted_proofs.specs.Equations.{Statement}
use Rattle.slotted_proofs.specs.Entries.{Proven, entries_of, statement_at}

-- the statement is over the canonical slots of its classes
pub record IsCanonical (nodes : List DTerm) (s : Statement) : Type 0 where
  pub left : s.left_slots ≡ canonical_slots nodes s.equation.left
  pub right : s.right_slots ≡ canonical_slots nodes s.equation.right

-- the statement of x is over canonical slots, and its step proves it over entries of the list
pub record IsProvable (nodes : List DTerm) (list : List Proven) (x : Proven) : Type 0 where
  pub canonical : IsCanonical nodes x.statement
  pub over : IsOver nodes x.statement.equation
  pub step : IsStepFor nodes (entries_of list) (length list) x.statement.equation x.step

-- what holds of the proof list of each graph: its entries are proved, and over canonical slots
pub record IsProved (nodes : List DTerm) (list : List Proven) : Type 0 where
  pub proved : Proved nodes (entries_of list)
  pub canonical : (p : ℕ) → p < length list → IsCanonical nodes (statement_at list p)
