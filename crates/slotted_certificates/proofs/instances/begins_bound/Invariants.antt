use Rattle.std.proofs.Common.{◌≡◌, length}
use Rattle.slotted_certificates.specs.Grammar.{begins_bound}
use Rattle.slotted_certificates.proofs.instances.begins_bound.Given as goal

abbrev pub invariant-loop-rest : goal.invariant-loop-rest
invariant-loop-rest l = begins_bound l.rest ≡ begins_bound l.fn.tokens

abbrev pub decreases-loop-rest : goal.decreases-loop-rest
decreases-loop-rest l = length l.rest
