-- Each element so far is one of the other set: the rest decides.
use Rattle.std.proofs.Common.{◌≡◌, drop}
use Rattle.std.specs.List.{list_all}
use Rattle.slotted_slots.specs.Sets.{has}
use Rattle.slotted_slots.proofs.small.SmallHashSet.is_subset.Given as goal

abbrev pub invariant-loop-item : goal.invariant-loop-item
invariant-loop-item g l = list_all (has g.T.Ord.cmp l.other) (drop l.item-index l.item-items) ≡ list_all (has g.T.Ord.cmp l.other) l.item-items
