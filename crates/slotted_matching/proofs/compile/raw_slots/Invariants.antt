use Rattle.std.proofs.Common.{◌≡◌, ◌++◌, take}
use Rattle.slotted_matching.proofs.compile.raw_slots.Given as goal

-- the slots so far were added, with their numbers
abbrev pub invariant-loop-slot : goal.invariant-loop-slot
invariant-loop-slot l = record { all : l.all.items ≡ l.fn.all.items ++ take l.slot-index l.slots; numbers : l.numbers.items ≡ take l.slot-index l.slots }
