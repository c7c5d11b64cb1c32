use Rattle.std.proofs.Common.{◌≡◌, map, take}
use Rattle.slotted_slots.specs.Maps.{values}
use Rattle.slotted_matching.specs.KeyRows.{slot_number}
use Rattle.slotted_matching.proofs.rows.child_numbers.Given as goal

abbrev pub invariant-loop-i : goal.invariant-loop-i
invariant-loop-i l = l.numbers.items ≡ map slot_number (take l.i (values l.m))
