use Rattle.std.proofs.Common.{◌≡◌, ◌+◌, ◌++◌, length}
use Rattle.slotted_check.specs.Rows.{lifts, moved_row}
use Rattle.slotted_certificates.proofs.substitution.push_shifted.Given as goal

abbrev pub invariant-loop-rest : goal.invariant-loop-rest
invariant-loop-rest l = l.out.items ++ moved_row (lifts l.depth (λ n. n + l.by)) l.rest ≡ l.fn.out.items ++ moved_row (λ n. n + l.by) l.fn.term

abbrev pub decreases-loop-rest : goal.decreases-loop-rest
decreases-loop-rest l = length l.rest
