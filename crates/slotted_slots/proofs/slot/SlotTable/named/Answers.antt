-- What the outcome gives is known, and the table knows more.
use Rattle.slotted_slots.proofs.Printing.{Follows-shown}
use Rattle.slotted_slots.proofs.NamingLaws.{Follows-known, Follows-more}
use Rattle.slotted_slots.proofs.slot.SlotTable.named.Goals as goal

pub returns-clause-known : goal.returns-clause-known
returns-clause-known c = Follows-known _ _ _ _ c.make_named.ensures.follows

pub returns-clause-more : goal.returns-clause-more
returns-clause-more c = Follows-more _ _ _ _ c.make_named.ensures.follows

pub returns-clause-shown : goal.returns-clause-shown
returns-clause-shown c = Follows-shown _ _ _ _ c.make_named.ensures.follows
