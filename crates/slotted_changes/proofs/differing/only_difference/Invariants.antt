-- Of the terms so far none differs, or one alone.
use Rattle.slotted_changes.proofs.Differences.{IsFound}
use Rattle.slotted_changes.proofs.differing.only_difference.Given as goal

abbrev pub invariant-loop-k : goal.invariant-loop-k
invariant-loop-k g l = IsFound l.ones l.twos l.k l.found
