use Rattle.std.proofs.Common.{◌≡◌, length}
use Rattle.slotted_theory.specs.FiniteMaps.{value_of}
use Rattle.slotted_check.proofs.renaming.value_among.Given as goal

abbrev pub invariant-loop-rest : goal.invariant-loop-rest
invariant-loop-rest l = value_of l.fn.pairs l.fn.name ≡ value_of l.rest l.fn.name

abbrev pub decreases-loop-rest : goal.decreases-loop-rest
decreases-loop-rest l = length l.rest
