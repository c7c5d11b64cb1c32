use Rattle.slotted_match_machine.proofs.Indexing.{slot_count_in-at, slot_count_in-past}
use Rattle.slotted_match_machine.proofs.index.RowIndex.slot_count.Goals as goal

pub returns-in-Some : goal.returns-in-Some
returns-in-Some c =
    let found = rw c.deref.ensures.value at c.in-Some.ensures.lookup in
    slot_count_in-at c.args.self.now.classes.items c.args.class c.in-Some.class.now found.3.0 found.1

pub returns-in-None : goal.returns-in-None
returns-in-None c =
    let found = rw c.deref.ensures.value at c.in-None.ensures.lookup in
    slot_count_in-past c.args.self.now.classes.items c.args.class found.3
