-- What is kept, as the mathematics sees a graph.
--     state_with k rows w   the state with these rows, of which these wait
--     state_of k            the state where no node is filed by its normal form, and nothing waits
--     symmetry_of_entry y   a listed symmetry
use Rattle.std.specs.Prelude.{ℕ, List, [], map}
use Rattle.slotted_model.specs.Applied.{keys}
use Rattle.slotted_model.specs.Correspondence.{same_names}
use Rattle.slotted_model.specs.State.{State, Symmetry, Row}
use Rattle.slotted_classes.specs.Kept.{Kept, SymmetryEntry, nodes_of, entries_of, proofs_of}

-- a listed symmetry, by the slots that carry one name
abbrev pub symmetry_of_entry : SymmetryEntry → Symmetry
symmetry_of_entry y = record { class = y.0.0.0; slots = keys y.0.0.1; pairs = same_names y.0.0.1 y.0.1.1; proof = y.1 }

abbrev pub state_with : Kept → List Row → List ℕ → State
state_with k rows waiting = record {
  nodes = nodes_of k;
  found = entries_of k;
  proofs = proofs_of k;
  rows = rows;
  waiting = waiting;
  symmetries = map symmetry_of_entry k.symmetries;
}

abbrev pub state_of : Kept → State
state_of k = state_with k [] []
