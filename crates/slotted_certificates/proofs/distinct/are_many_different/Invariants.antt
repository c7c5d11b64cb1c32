use Rattle.std.specs.Prelude.{length, map, string_bytes}
use Rattle.slotted_certificates.specs.Distinct.{AreUnseen}
use Rattle.slotted_certificates.specs.Given.{AreDifferent}
use Rattle.slotted_certificates.proofs.distinct.are_many_different.Given as goal

abbrev pub invariant-loop-rest : goal.invariant-loop-rest
invariant-loop-rest l = AreUnseen l.seen (map string_bytes l.rest) → AreDifferent (map string_bytes l.fn.words)

abbrev pub decreases-loop-rest : goal.decreases-loop-rest
decreases-loop-rest l = length l.rest
