use Rattle.std.proofs.Common.{◌≡◌, length}
use Rattle.slotted_certificates.specs.Texts.{are_of_word}
use Rattle.slotted_certificates.proofs.spelling.are_of_word.Given as goal

abbrev pub invariant-loop-rest : goal.invariant-loop-rest
invariant-loop-rest l = are_of_word l.rest ≡ are_of_word l.fn.bytes

abbrev pub decreases-loop-rest : goal.decreases-loop-rest
decreases-loop-rest l = length l.rest
