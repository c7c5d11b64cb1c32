use Rattle.std.proofs.Common.{◌↔◌, length}
use Rattle.slotted_theory.specs.FiniteMaps.{HasValue}
use Rattle.slotted_check.proofs.renaming.is_value_among.Given as goal

abbrev pub invariant-loop-rest : goal.invariant-loop-rest
invariant-loop-rest l = HasValue l.fn.pairs l.fn.value ↔ HasValue l.rest l.fn.value

abbrev pub decreases-loop-rest : goal.decreases-loop-rest
decreases-loop-rest l = length l.rest
