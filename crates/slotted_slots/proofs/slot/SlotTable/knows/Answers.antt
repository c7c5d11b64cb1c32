-- The remainder says the kind of the slot.
use Rattle.std.proofs.Common.{◌∙◌, sym, subst, arith}
use Rattle.std.proofs.lemmas.Bool.Decides.{nat_tests}
use Rattle.std.proofs.lemmas.List.{length-map}
use Rattle.slotted_slots.specs.Table.{is_known, IsTable}
use Rattle.slotted_slots.proofs.Printing.{reads_back}
use Rattle.slotted_slots.proofs.slot.SlotTable.knows.Goals as goal

pub returns-in-0-clause-known : goal.returns-in-0-clause-known
unfolding is_known
returns-in-0-clause-known c = grind (arith, nat_tests, c.self.view_is, c.s.view_is)

pub returns-in-0-clause-reads_back : goal.returns-in-0-clause-reads_back
returns-in-0-clause-reads_back c known = reads_back _ (subst IsTable c.self.view_is c.self.invariant) _ (omega arith) (sym (returns-in-0-clause-known c) ∙ known)

pub returns-in-1-clause-known : goal.returns-in-1-clause-known
unfolding is_known
returns-in-1-clause-known c = grind (arith, nat_tests, c.self.view_is, c.s.view_is)

pub returns-in-1-clause-reads_back : goal.returns-in-1-clause-reads_back
returns-in-1-clause-reads_back c known = reads_back _ (subst IsTable c.self.view_is c.self.invariant) _ (omega arith) (sym (returns-in-1-clause-known c) ∙ known)

pub returns-in-2-clause-known : goal.returns-in-2-clause-known
unfolding is_known
returns-in-2-clause-known c = grind (arith, nat_tests, c.self.view_is, c.s.view_is, length-map)

pub returns-in-2-clause-reads_back : goal.returns-in-2-clause-reads_back
returns-in-2-clause-reads_back c known = reads_back _ (subst IsTable c.self.view_is c.self.invariant) _ (omega arith) (sym (returns-in-2-clause-known c) ∙ known)

pub returns-in_default-clause-known : goal.returns-in_default-clause-known
unfolding is_known
returns-in_default-clause-known c = grind (arith, nat_tests, c.self.view_is, c.s.view_is)

pub returns-in_default-clause-reads_back : goal.returns-in_default-clause-reads_back
returns-in_default-clause-reads_back c known = reads_back _ (subst IsTable c.self.view_is c.self.invariant) _ (omega arith) (sym (returns-in_default-clause-known c) ∙ known)
