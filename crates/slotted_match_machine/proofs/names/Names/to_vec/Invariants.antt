-- The names that were copied.
use Rattle.std.proofs.Common.{◌≡◌, take}
use Rattle.slotted_match_machine.specs.Views.{names_at}
use Rattle.slotted_match_machine.proofs.names.Names.to_vec.Given as goal

abbrev pub invariant-loop-position : goal.invariant-loop-position
invariant-loop-position l = l.copy.items ≡ take l.position (names_at l.frames l.self)
