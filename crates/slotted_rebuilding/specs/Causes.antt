-- Why a rebuild may run out of slots.
use Rattle.std.specs.Prelude.{◌⊎◌, ℕ, ◌<◌, ◌≤◌, ◌^◌, length}
use Rattle.slotted_model.specs.Classes.{canonical_slots}
use Rattle.slotted_rebuilding.specs.Named.{IsWideClass}
use Rattle.slotted_classes.specs.Kept.{Kept, nodes_of}

-- a class has so many slots that two ids of it have too many names, or its node so many names, binders and children that two of these may have too many
abbrev pub HasLargeClass : Kept → Type 0
HasLargeClass k = (i : ℕ) × (i < length k.classes) × ((2 ^ 29 ≤ length (canonical_slots (nodes_of k) i)) ⊎ IsWideClass (nodes_of k) i)
