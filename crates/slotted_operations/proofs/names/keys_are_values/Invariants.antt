use Rattle.std.proofs.Common.{◌↔◌, ℕ}
use Rattle.std.specs.Prelude.{Contains}
use Rattle.slotted_slots.specs.Maps.{keys, values}
use Rattle.slotted_operations.proofs.names.keys_are_values.Given as goal

-- the keys that are left are all values, exactly if all are
abbrev pub invariant-loop-slot : goal.invariant-loop-slot
invariant-loop-slot l =
    ((s : ℕ) → Contains (keys l.slot-iterator) s → Contains (values l.slots) s) ↔ ((s : ℕ) → Contains (keys l.map) s → Contains (values l.slots) s)
