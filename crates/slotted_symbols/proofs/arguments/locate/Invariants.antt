use Rattle.std.proofs.Common.{◌≡◌, ◌+◌, length, take}
use Rattle.slotted_nodes.specs.ReadFrom.{slots_of}
use Rattle.slotted_symbols.specs.Arguments.{elements}
use Rattle.slotted_symbols.proofs.arguments.locate.Given as goal

abbrev pub invariant-loop-k : goal.invariant-loop-k
invariant-loop-k l = length (slots_of (elements (take l.k l.arguments))) + l.left ≡ l.i
