use Rattle.std.specs.Prelude.{map, string_bytes}
use Rattle.slotted_certificates.specs.Given.{AreDifferent}
use Rattle.slotted_certificates.proofs.given.are_different.Given as goal

abbrev pub invariant-loop : goal.invariant-loop
invariant-loop l = AreDifferent (map string_bytes l.rest) → AreDifferent (map string_bytes l.fn.words)
