-- The size so far.
use Rattle.std.proofs.Common.{◌≡◌, suc, sum, min, take}
use Rattle.slotted_costs.specs.Size.{largest}
use Rattle.slotted_costs.proofs.ast_size.size_over.Given as goal

abbrev pub invariant-loop-cost : goal.invariant-loop-cost
invariant-loop-cost l = l.size ≡ min (suc (sum (take l.cost-index l.child))) largest
