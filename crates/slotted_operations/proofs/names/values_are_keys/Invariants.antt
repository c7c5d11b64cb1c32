use Rattle.std.proofs.Common.{◌<◌, ℕ, slice_index_or}
use Rattle.std.specs.Prelude.{IsSome}
use Rattle.slotted_slots.specs.Maps.{values, value_of}
use Rattle.slotted_operations.proofs.names.values_are_keys.Given as goal

abbrev pub invariant-loop-i : goal.invariant-loop-i
invariant-loop-i l = (k d : ℕ) → k < l.i → IsSome (value_of l.map (slice_index_or (values l.slots) k d))
