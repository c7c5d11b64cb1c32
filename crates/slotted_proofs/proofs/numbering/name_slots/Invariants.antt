use Rattle.std.proofs.Common.{◌≡◌, ◌+◌, ◌≤◌, ◌++◌, length}
use Rattle.slotted_model.specs.Applied.{keys}
use Rattle.slotted_proofs.specs.Equations.{named_after}
use Rattle.slotted_proofs.proofs.numbering.name_slots.Given as goal

-- what is left to name completes the side, and there are numbers for it
abbrev pub invariant-loop-slot : goal.invariant-loop-slot
invariant-loop-slot l = record {
  whole : l.side ++ named_after l.known l.next (keys l.slot-iterator) ≡ named_after l.known l.first (keys l.map);
  few : l.next + length l.slot-iterator ≤ l.first + length l.map;
}
