-- The elements so far that the other set lacks, and those of the rest.
use Rattle.std.proofs.Common.{◌≡◌, ◌++◌, drop}
use Rattle.slotted_slots.specs.SetAlgebra.{remaining}
use Rattle.slotted_slots.proofs.small.SmallHashSet.difference.Given as goal

abbrev pub invariant-loop-item : goal.invariant-loop-item
invariant-loop-item g l = l.items.items ++ remaining g.T.Ord.cmp (drop l.item-index l.item-items) l.other ≡ remaining g.T.Ord.cmp l.item-items l.other
