-- The children are equal exactly if those from the place at hand on are.
use Rattle.std.proofs.Common.{◌≡◌}
use Rattle.slotted_patterns.proofs.ComparedShapes.{rows_from}
use Rattle.slotted_patterns.proofs.pattern.comparing.+equal_by_calls.Given as goal

abbrev pub invariant-loop-k : goal.invariant-loop-k
invariant-loop-k g l = rows_from g.L.PartialEq.eq l.ones.items l.twos.items l.k ≡ rows_from g.L.PartialEq.eq l.ones.items l.twos.items 0
