use Rattle.std.proofs.Common.{◌<◌, ℕ, slice_index_or}
use Rattle.slotted_slots.specs.Maps.{values}
use Rattle.slotted_proofs.specs.Equations.{to_applied}
use Rattle.slotted_classes.specs.Finding.{HasFoundName}
use Rattle.slotted_classes.proofs.store.Store.has_found_names.Given as goal

-- the id has names for the slots so far
abbrev pub invariant-loop-i : goal.invariant-loop-i
invariant-loop-i g l = (j d : ℕ) → j < l.i → HasFoundName l.self (to_applied l.a) (slice_index_or (values l.slots) j d)
