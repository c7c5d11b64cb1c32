-- Numeric slots are known.
use Rattle.slotted_slots.proofs.TableLaws.{is_known-numeric_slot}
use Rattle.slotted_slots.proofs.slot.SlotTable.numeric.Goals as goal

pub returns-then-u-lt-LIMIT-clause-known : goal.returns-then-u-lt-LIMIT-clause-known
returns-then-u-lt-LIMIT-clause-known c = is_known-numeric_slot _ c.args.u
