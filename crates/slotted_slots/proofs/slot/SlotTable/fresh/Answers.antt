-- The slot that was made is the first that the counter had not passed.
use Rattle.std.proofs.Common.{arith}
use Rattle.std.proofs.lemmas.Bool.Decides.{nat_tests}
use Rattle.slotted_slots.proofs.TableLaws.{is_known-fresh_slot, KnowsMore-grows}
use Rattle.slotted_slots.proofs.slot.SlotTable.fresh.Goals as goal

pub returns-clause-unused : goal.returns-clause-unused
returns-clause-unused c = grind (arith, nat_tests, is_known-fresh_slot, c.self.view_is)

pub returns-clause-known : goal.returns-clause-known
returns-clause-known c = grind (arith, nat_tests, is_known-fresh_slot, c.self.view_is)

pub returns-clause-more : goal.returns-clause-more
returns-clause-more c = KnowsMore-grows _ _ (grind (arith, c.self.view_is)) (grind (arith, c.self.view_is))
