use Rattle.std.proofs.Common.{◌≡◌, take}
use Rattle.slotted_nodes.specs.ReadFrom.{applied_count}
use Rattle.slotted_symbols.specs.Arguments.{elements}
use Rattle.slotted_symbols.proofs.arguments.child_count.Given as goal

abbrev pub invariant-loop-argument : goal.invariant-loop-argument
invariant-loop-argument l = l.count ≡ applied_count (elements (take l.argument-index l.arguments))
