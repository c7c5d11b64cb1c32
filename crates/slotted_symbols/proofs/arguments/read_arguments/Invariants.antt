use Rattle.std.proofs.Common.{◌≡◌, take, drop, map}
use Rattle.slotted_slots.specs.Syntax.{element_of}
use Rattle.slotted_symbols.specs.Arguments.{elements, has_text}
use Rattle.slotted_symbols.proofs.arguments.read_arguments.Given as goal

-- what was read so far, and that no text stood among it
abbrev pub invariant-loop-element : goal.invariant-loop-element
invariant-loop-element l = record {
  read : elements l.arguments.items ≡ map element_of (take l.element-index l.syntax);
  rest : has_text (map element_of (drop l.element-index l.syntax)) ≡ has_text (map element_of l.syntax);
}
