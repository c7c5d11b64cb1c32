use Rattle.std.proofs.Common.{◌≡◌}
use Rattle.slotted_matching.specs.KeyRows.{positions_below}
use Rattle.slotted_matching.proofs.rows.row_slots.Given as goal

abbrev pub invariant-loop-number : goal.invariant-loop-number
invariant-loop-number l = l.slots.items ≡ positions_below l.number l.names l.found
