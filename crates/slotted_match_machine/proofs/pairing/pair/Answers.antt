use Rattle.slotted_match_machine.proofs.Pairs.{paired-found, paired-taken, paired-pushed}
use Rattle.slotted_match_machine.proofs.pairing.pair.Goals as goal

pub returns-in-Some-clause-paired : goal.returns-in-Some-clause-paired
returns-in-Some-clause-paired c =
    paired-found c.args.pairs.now.items c.args.name c.args.slot c.in-Some.other (rw c.deref.ensures.value at c.in-Some.ensures)

pub returns-then-is_taken-clause-paired : goal.returns-then-is_taken-clause-paired
returns-then-is_taken-clause-paired c =
    paired-taken c.args.pairs.now.items c.args.name c.args.slot (rw c.deref.ensures.value at c.in_default.ensures) (rw c.deref-2.ensures.value at c.if-is_taken.ensures)

pub returns-clause-paired : goal.returns-clause-paired
returns-clause-paired c =
    paired-pushed c.args.pairs.now.items c.push.new.self.items c.args.name c.args.slot
    (rw c.deref.ensures.value at c.in_default.ensures) (rw c.deref-2.ensures.value at c.if-is_taken.ensures) c.in_ok-push.ensures.items
