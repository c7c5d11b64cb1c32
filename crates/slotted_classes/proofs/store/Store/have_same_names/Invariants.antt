use Rattle.std.proofs.Common.{◌≡◌, ◌<◌, ℕ, slice_index_or}
use Rattle.slotted_theory.specs.FiniteMaps.{value_of}
use Rattle.slotted_slots.specs.Maps.{values}
use Rattle.slotted_model.specs.Find.{find}
use Rattle.slotted_classes.specs.Kept.{entries_of}
use Rattle.slotted_proofs.specs.Equations.{to_applied}
use Rattle.slotted_classes.proofs.store.Store.have_same_names.Given as goal

-- the names at the slots so far are the same
abbrev pub invariant-loop-i : goal.invariant-loop-i
invariant-loop-i g l =
    (j d : ℕ) → j < l.i →
    value_of (find (entries_of l.self) (to_applied l.a)).1 (slice_index_or (values l.slots) j d) ≡ value_of (find (entries_of l.self) (to_applied l.b)).1 (slice_index_or (values l.slots) j d)
