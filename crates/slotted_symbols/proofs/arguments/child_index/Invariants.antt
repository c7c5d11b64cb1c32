use Rattle.std.proofs.Common.{◌≡◌, ◌+◌, take}
use Rattle.slotted_nodes.specs.ReadFrom.{applied_count}
use Rattle.slotted_symbols.specs.Arguments.{elements}
use Rattle.slotted_symbols.proofs.arguments.child_index.Given as goal

abbrev pub invariant-loop-n : goal.invariant-loop-n
invariant-loop-n l = applied_count (elements (take l.n l.arguments)) + l.left ≡ l.k
