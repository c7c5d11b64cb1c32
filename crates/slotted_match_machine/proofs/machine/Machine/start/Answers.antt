use Rattle.slotted_match_machine.proofs.States.{at_start-state, at_start-readable}
use Rattle.slotted_match_machine.proofs.machine.Machine.start.Goals as goal

pub returns-clause-started : goal.returns-clause-started
returns-clause-started c =
    rw (c.clear.ensures.items, c.clear-2.ensures.items, c.clear-3.ensures.items, c.of_frame-self.ensures)
    (at_start-state c.args.self.now.index.now.classes.items c.args.class c.slot_count-slot_count.result c.name_slots.new.frames.items c.slot_count-slot_count.ensures c.in_ok-name_slots.ensures)

pub returns-clause-readable : goal.returns-clause-readable
returns-clause-readable c =
    rw (c.clear.ensures.items, c.clear-2.ensures.items, c.clear-3.ensures.items, c.of_frame-self.ensures)
    (at_start-readable c.args.self.now.index.now.classes.items c.args.class c.slot_count-slot_count.result c.name_slots.new.frames.items c.in_ok-name_slots.ensures)
