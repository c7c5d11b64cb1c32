use Rattle.std.proofs.Common.{◌≡◌, length}
use Rattle.slotted_certificates.specs.Grammar.{binds_in}
use Rattle.slotted_certificates.proofs.instances.is_binder.Given as goal

abbrev pub invariant-loop-rest : goal.invariant-loop-rest
invariant-loop-rest l = binds_in l.rest l.operator ≡ binds_in l.fn.binders l.operator

abbrev pub decreases-loop-rest : goal.decreases-loop-rest
decreases-loop-rest l = length l.rest
