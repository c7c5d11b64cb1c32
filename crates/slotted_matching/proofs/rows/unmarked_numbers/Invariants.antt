use Rattle.std.proofs.Common.{◌≡◌, map, take}
use Rattle.slotted_matching.specs.KeyRows.{slot_number, unmarked}
use Rattle.slotted_matching.proofs.rows.unmarked_numbers.Given as goal

abbrev pub invariant-loop-i : goal.invariant-loop-i
invariant-loop-i g l = l.numbers.items ≡ map slot_number (unmarked l.mark (take l.i (g.L.LanguageChildren.form l.outline).names))
