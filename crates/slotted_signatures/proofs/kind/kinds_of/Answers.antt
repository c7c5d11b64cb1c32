use Rattle.std.proofs.Common.{arith}
use Rattle.std.proofs.lemmas.Grind.{common_steps}
use Rattle.slotted_signatures.proofs.KindNumbers.{kinds-elements}
use Rattle.slotted_signatures.proofs.kind.kinds_of.Goals as goal

pub returns-clause-ok : goal.returns-clause-ok
returns-clause-ok c = rw kinds-elements (grind (arith, common_steps))
