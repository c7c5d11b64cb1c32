-- The names of the numbers so far.
use Rattle.slotted_match_machine.specs.Views.{names_at}
use Rattle.slotted_match_machine.proofs.NewNames.{AreNamed}
use Rattle.slotted_match_machine.proofs.names.name_numbers.Given as goal

abbrev pub invariant-loop-slot : goal.invariant-loop-slot
invariant-loop-slot l =
    AreNamed l.initial.frames.items (names_at l.initial.frames.items l.names) l.slots l.initial.count l.slot-index l.frames.items l.count
