use Rattle.std.proofs.Common.{length}
use Rattle.std.specs.Prelude.{Contains, map, string_bytes}
use Rattle.slotted_certificates.proofs.given.is_new.Given as goal

abbrev pub invariant-loop-rest : goal.invariant-loop-rest
invariant-loop-rest l = ¬ Contains (map string_bytes l.rest) l.word → ¬ Contains (map string_bytes l.fn.words) l.word

abbrev pub decreases-loop-rest : goal.decreases-loop-rest
decreases-loop-rest l = length l.rest
