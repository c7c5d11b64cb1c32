use Rattle.std.proofs.Common.{◌≡◌}
use Rattle.slotted_proofs.proofs.NumberedSides.{named_so_far}
use Rattle.slotted_proofs.proofs.numbering.number_left.Given as goal

-- the slots so far have their numbers
abbrev pub invariant-loop-i : goal.invariant-loop-i
invariant-loop-i l = l.side ≡ named_so_far 0 l.i l.map
