use Rattle.std.proofs.Common.{◌<◌, ℕ, slice_index_or}
use Rattle.slotted_slots.specs.Maps.{values}
use Rattle.slotted_hashcons.specs.FoundNodes.{StandsIn}
use Rattle.slotted_hashcons.proofs.covered.is_covered.Given as goal

-- the slots so far stand in the map
abbrev pub invariant-loop-i : goal.invariant-loop-i
invariant-loop-i g l = (j d : ℕ) → j < l.i → StandsIn l.store l.class l.names (slice_index_or (values l.slots) j d)
