use Rattle.slotted_certificates.specs.Scopes.{numbering}
use Rattle.slotted_certificates.proofs.Seen.{scope-seen}
use Rattle.slotted_certificates.proofs.instances.seen.Goals as goal

pub returns-in-Some-deeper : goal.returns-in-Some-deeper
returns-in-Some-deeper c = rw c.in-Scope.is (scope-seen (numbering c.args.scopes.now) c.args.depth c.in-Some-deeper.next c.in-Some-deeper.ensures)
