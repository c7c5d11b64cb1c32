use Rattle.std.proofs.Common.{length}
use Rattle.std.specs.Prelude.{map}
use Rattle.slotted_certificates.specs.Meaning.{AreTermRows}
use Rattle.slotted_certificates.proofs.instances.are_terms.Given as goal

abbrev pub invariant-loop-rest : goal.invariant-loop-rest
invariant-loop-rest l = AreTermRows (map (λ r. r.items) l.rest) → AreTermRows (map (λ r. r.items) l.fn.values)

abbrev pub decreases-loop-rest : goal.decreases-loop-rest
decreases-loop-rest l = length l.rest
