-- The sum so far.
use Rattle.std.proofs.Common.{◌≡◌, ◌+◌, sum, min, take}
use Rattle.slotted_run_lines.specs.LeastSize.{largest}
use Rattle.slotted_run_lines.proofs.least_binders.added.Given as goal

abbrev pub invariant-loop-part : goal.invariant-loop-part
invariant-loop-part l = l.total ≡ min (l.first + sum (take l.part-index l.others)) largest
