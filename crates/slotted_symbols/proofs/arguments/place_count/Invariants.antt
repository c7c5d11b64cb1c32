use Rattle.std.proofs.Common.{◌≡◌, length, take}
use Rattle.slotted_nodes.specs.Form.{counted}
use Rattle.slotted_nodes.specs.ReadFrom.{slots_of}
use Rattle.slotted_symbols.specs.Arguments.{elements}
use Rattle.slotted_symbols.proofs.arguments.place_count.Given as goal

abbrev pub invariant-loop-argument : goal.invariant-loop-argument
invariant-loop-argument l = l.count ≡ counted (length (slots_of (elements (take l.argument-index l.arguments))))
