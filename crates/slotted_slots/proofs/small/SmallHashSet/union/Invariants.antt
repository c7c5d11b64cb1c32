-- The rest of the elements goes in after those so far.
use Rattle.std.proofs.Common.{◌≡◌, drop}
use Rattle.slotted_slots.specs.SetAlgebra.{united}
use Rattle.slotted_slots.proofs.small.SmallHashSet.union.Given as goal

abbrev pub invariant-loop-item : goal.invariant-loop-item
invariant-loop-item g l = united g.T.Ord.cmp l.union (drop l.item-index l.item-items) ≡ united g.T.Ord.cmp l.fn.self l.item-items
