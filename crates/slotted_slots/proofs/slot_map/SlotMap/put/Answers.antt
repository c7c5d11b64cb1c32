-- The pair is put in where the search found its key, or the gap for it.
use Rattle.std.proofs.Common.{sym, arith, ◌∙◌}
use Rattle.slotted_slots.proofs.MapLemmas.{value_of-gap, with_pair-at, with_pair-gap, IsAscending-with_pair, IsAscending-with_value_at}
use Rattle.slotted_slots.proofs.slot_map.SlotMap.put.Goals as goal
use Rattle.slotted_slots.proofs.slot_map.SlotMap.put.Goals.{in-Ok, in-Err+in_ok-insert-in-Err}

pub invariant_of-self : goal.invariant_of-self
invariant_of-self c = rw c.write_value.ensures (IsAscending-with_value_at _ _ _ c.self.invariant)

pub invariant_of-self-in-Continue-1 : goal.invariant_of-self-in-Continue-1
invariant_of-self-in-Continue-1 c =
    let put = with_pair-gap _ _ c.args.r _ c.in-Err.ensures.absent in
    rw (c.in_ok-insert-in-Err.ensures.items, c.self.view_is, ← put) (IsAscending-with_pair _ _ _ c.in-Err.ensures.ascending)

pub returns-in_err-insert-in-Err-clause-overwrites : goal.returns-in_err-insert-in-Err-clause-overwrites
returns-in_err-insert-in-Err-clause-overwrites c found = grind (arith, value_of-gap _ _ _ c.in-Err.ensures.absent)

pub returns-clause-ok : goal.returns-clause-ok
returns-clause-ok c = elim c.match-search.branch [
  | in-Ok w ↦ w.self-is ∙ rw (w.write_value.ensures, c.self.view_is) (sym (with_pair-at _ w.in-Ok.ensures.ascending _ c.args.r _ w.in-Ok.ensures.found))
  | in-Err+in_ok-insert-in-Err w ↦ w.self-is ∙ rw (w.in_ok-insert-in-Err.ensures.items, c.self.view_is) (sym (with_pair-gap _ _ c.args.r _ w.in-Err.ensures.absent))
]
