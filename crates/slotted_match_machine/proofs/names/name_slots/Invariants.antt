-- The names so far.
use Rattle.std.specs.List.{range_with_len}
use Rattle.std.proofs.Common.{◌≡◌}
use Rattle.slotted_match_machine.proofs.names.name_slots.Given as goal

abbrev pub invariant-loop-name : goal.invariant-loop-name
invariant-loop-name l = l.frames.items ≡ range_with_len 0 l.name
