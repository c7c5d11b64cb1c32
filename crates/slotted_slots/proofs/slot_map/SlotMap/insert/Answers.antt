-- A key past all others goes to the end.
use Rattle.std.proofs.Common.{sym, arith}
use Rattle.slotted_slots.proofs.MapLemmas.{value_of-gap, with_pair-end, IsAscending-with_pair}
use Rattle.slotted_slots.proofs.slot_map.SlotMap.insert.Goals as goal

pub returns-in_err-push-clause-overwrites : goal.returns-in_err-push-clause-overwrites
returns-in_err-push-clause-overwrites c found = grind (arith, value_of-gap _ _ _ (c.ends_before.ensures c.if-ends_before.true))

pub invariant_of-self-then-ends_before : goal.invariant_of-self-then-ends_before
invariant_of-self-then-ends_before c =
    let put = with_pair-end c.args.self.now c.args.l c.args.r (c.ends_before.ensures c.if-ends_before.true) in
    rw (c.in_ok-push.ensures.items, c.self.view_is, ← put) (IsAscending-with_pair c.args.self.now c.args.l c.args.r (rw (← c.self.view_is) c.self.invariant))

pub returns-then-ends_before-clause-ok : goal.returns-then-ends_before-clause-ok
returns-then-ends_before-clause-ok c =
    rw (c.in_ok-push.ensures.items, c.self.view_is) (sym (with_pair-end c.args.self.now c.args.l c.args.r (c.ends_before.ensures c.if-ends_before.true)))
