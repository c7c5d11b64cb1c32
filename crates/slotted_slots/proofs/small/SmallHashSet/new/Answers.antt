-- The empty list rises.
use Rattle.slotted_slots.proofs.SetLemmas.{IsStrictlySortedBy-nil}
use Rattle.slotted_slots.proofs.small.SmallHashSet.new.Goals as goal

pub invariant_of-result : goal.invariant_of-result
invariant_of-result g c = rw c.new.ensures.items (IsStrictlySortedBy-nil _)
