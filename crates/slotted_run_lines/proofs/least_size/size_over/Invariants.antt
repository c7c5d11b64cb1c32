-- The size so far.
use Rattle.std.proofs.Common.{◌≡◌, suc, sum, min, take}
use Rattle.slotted_run_lines.specs.LeastSize.{largest}
use Rattle.slotted_run_lines.proofs.least_size.size_over.Given as goal

abbrev pub invariant-loop-part : goal.invariant-loop-part
invariant-loop-part l = l.size ≡ min (suc (sum (take l.part-index l.child))) largest
