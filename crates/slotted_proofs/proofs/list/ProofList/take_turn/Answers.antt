use Rattle.std.proofs.Common.{arith}
use Rattle.std.proofs.lemmas.Grind.{common_steps}
use Rattle.slotted_proofs.proofs.list.ProofList.take_turn.Goals as goal

pub first_part-requires : goal.first_part-requires
first_part-requires c = c.requires.within

pub push-requires-in-None : goal.push-requires-in-None
push-requires-in-None c = c.requires.new

pub returns-in_ok-push-in-Some-2-clause-ok : goal.returns-in_ok-push-in-Some-2-clause-ok
returns-in_ok-push-in-Some-2-clause-ok c = grind (arith, common_steps)

pub returns-in-None-clause-ok : goal.returns-in-None-clause-ok
returns-in-None-clause-ok c = grind (arith, common_steps)
