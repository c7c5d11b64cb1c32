use Rattle.std.proofs.Common.{◌<◌, ℕ, slice_index_or}
use Rattle.std.specs.Prelude.{Contains}
use Rattle.slotted_slots.specs.Maps.{values}
use Rattle.slotted_classes.proofs.names.has_values_of.Given as goal

-- the values so far are values of the other
abbrev pub invariant-loop-i : goal.invariant-loop-i
invariant-loop-i l = (k d : ℕ) → k < l.i → Contains (values l.other) (slice_index_or (values l.map) k d)
