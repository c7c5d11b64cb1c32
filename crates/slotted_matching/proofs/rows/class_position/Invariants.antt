use Rattle.std.proofs.Common.{◌≡◌, drop}
use Rattle.slotted_matching.specs.KeyRows.{class_position}
use Rattle.slotted_matching.proofs.Positions.{later_by}
use Rattle.slotted_matching.proofs.rows.class_position.Given as goal

abbrev pub invariant-loop-i : goal.invariant-loop-i
invariant-loop-i l = class_position l.found l.slot ≡ later_by l.i (class_position (drop l.i l.found) l.slot)
