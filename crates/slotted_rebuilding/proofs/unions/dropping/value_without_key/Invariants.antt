use Rattle.std.proofs.Common.{◌<◌, ℕ, slice_index_or}
use Rattle.std.specs.Prelude.{Contains}
use Rattle.slotted_slots.specs.Maps.{keys, values}
use Rattle.slotted_rebuilding.proofs.unions.dropping.value_without_key.Given as goal

-- the values so far are keys of the other
abbrev pub invariant-loop-i : goal.invariant-loop-i
invariant-loop-i l = (k d : ℕ) → k < l.i → Contains (keys l.map) (slice_index_or (values l.slots) k d)
