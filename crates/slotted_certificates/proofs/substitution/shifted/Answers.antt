use Rattle.std.proofs.Common.{◌+◌}
use Rattle.slotted_certificates.proofs.Seen.{scope-seen}
use Rattle.slotted_certificates.proofs.substitution.shifted.Goals as goal

pub returns-in-Some-deeper : goal.returns-in-Some-deeper
returns-in-Some-deeper c = rw c.in-Scope.is (scope-seen (λ n. n + c.args.by) c.args.depth c.in-Some-deeper.next c.in-Some-deeper.ensures)
