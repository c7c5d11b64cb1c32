use Rattle.std.proofs.Common.{◌≡◌, length}
use Rattle.slotted_certificates.specs.Free.{free_in_row}
use Rattle.slotted_certificates.proofs.rules.is_free.Given as goal

abbrev pub invariant-loop-rest : goal.invariant-loop-rest
invariant-loop-rest l = free_in_row l.name l.rest ≡ free_in_row l.fn.name l.fn.term

abbrev pub decreases-loop-rest : goal.decreases-loop-rest
decreases-loop-rest l = length l.rest
