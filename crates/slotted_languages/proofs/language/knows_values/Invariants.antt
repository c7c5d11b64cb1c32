use Rattle.std.proofs.Common.{take}
use Rattle.slotted_slots.specs.Maps.{KnowsAll, values}
use Rattle.slotted_languages.proofs.language.knows_values.Given as goal

abbrev pub invariant-loop-i : goal.invariant-loop-i
invariant-loop-i l = KnowsAll l.m (take l.i (values l.other))
