-- The total so far.
use Rattle.std.proofs.Common.{◌≡◌, ◌+◌, sum, min, take}
use Rattle.slotted_costs.specs.Size.{largest}
use Rattle.slotted_costs.proofs.weights.weighed_sum.Given as goal

abbrev pub invariant-loop-cost : goal.invariant-loop-cost
invariant-loop-cost l = l.total ≡ min (l.fn.weight + sum (take l.cost-index l.child)) largest
