use Rattle.std.proofs.Common.{◌≡◌, ◌++◌, take, map}
use Rattle.slotted_slots.specs.Syntax.{element_of}
use Rattle.slotted_symbols.specs.Arguments.{elements}
use Rattle.slotted_symbols.proofs.arguments.write_arguments.Given as goal

abbrev pub invariant-loop-argument : goal.invariant-loop-argument
invariant-loop-argument l = map element_of l.written.items ≡ map element_of l.fn.written.items ++ elements (take l.argument-index l.arguments)
