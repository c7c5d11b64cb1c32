use Rattle.slotted_certificates.specs.Turning.{StepsTo}
use Rattle.slotted_certificates.proofs.substitution.turn_all.Given as goal

abbrev pub invariant-loop : goal.invariant-loop
invariant-loop l = StepsTo l.fn.part l.fn.value 0 l.fn.pieces l.depth l.rest l.fn.out.items l.out.items
