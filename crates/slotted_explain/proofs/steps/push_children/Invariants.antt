-- The parts of the last children are on the stack.
use Rattle.std.proofs.Common.{◌≡◌, ◌++◌, drop, reverse}
use Rattle.slotted_explain.specs.Chain.{child_rewrites}
use Rattle.slotted_explain.proofs.steps.push_children.Given as goal

abbrev pub invariant-loop-k : goal.invariant-loop-k
invariant-loop-k l = l.stack.items ≡ l.fn.stack.items ++ reverse (child_rewrites l.step l.k (drop l.k l.parts))
