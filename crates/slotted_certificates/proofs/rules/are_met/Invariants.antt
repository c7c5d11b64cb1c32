use Rattle.std.proofs.Common.{length}
use Rattle.std.specs.Prelude.{map}
use Rattle.slotted_certificates.specs.Rules.{EachHolds}
use Rattle.slotted_certificates.proofs.rules.are_met.Given as goal

abbrev pub invariant-loop-rest : goal.invariant-loop-rest
invariant-loop-rest l = EachHolds (map (λ r. r.items) l.values) l.rest → EachHolds (map (λ r. r.items) l.values) l.fn.conditions

abbrev pub decreases-loop-rest : goal.decreases-loop-rest
decreases-loop-rest l = length l.rest
