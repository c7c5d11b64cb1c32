-- The children of a node as applied ids.
use Rattle.std.specs.Prelude.{◌≡◌, ℕ, ◌+◌, ◌<◌, ◌≤◌, ◌⊎◌, length, slice_index, IsTrue}
use Rattle.slotted_slots.specs.Table.{Table, is_known}
use Rattle.slotted_nodes.specs.Form.{Form, IsSmall, Tree, children, child_place, width}
pub use Rattle.slotted_proofs.specs.Equations.{to_applied}
pub use Rattle.slotted_classes.specs.ChildIds.{ids_in, child_ids}

-- the place is one of a child
abbrev pub IsChildPlace : Tree → ℕ → Type 0
IsChildPlace t i = (k : ℕ) × (k < length (children t)) × (child_place t k ≤ i) × (i < child_place t k + width t k)

-- it is one of a child, or the table knows the slot there
abbrev pub IsKnownPlace : Table → Form → ℕ → Type 0
IsKnownPlace t f i = IsChildPlace f.tree i ⊎ IsTrue (is_known t (slice_index f.names i))

-- each place of the node is such a place
abbrev pub HasKnownPlaces : Table → Form → Type 0
HasKnownPlaces t f = (i : ℕ) → i < length f.names → IsKnownPlace t f i

-- the node has so many children, fewer than 2^30 places, and known slots at its own
pub record IsValidOver (t : Table) (f : Form) (count : ℕ) : Type 0 where
  pub right : length (children f.tree) ≡ count
  pub small : IsSmall f
  pub known : HasKnownPlaces t f
