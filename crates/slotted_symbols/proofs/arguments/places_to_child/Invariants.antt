use Rattle.std.proofs.Common.{◌≡◌, ◌+◌, drop}
use Rattle.std.specs.Prelude.{option_map}
use Rattle.slotted_symbols.specs.Arguments.{elements, to_child}
use Rattle.slotted_symbols.proofs.arguments.places_to_child.Given as goal

abbrev pub invariant-loop-k : goal.invariant-loop-k
invariant-loop-k l = to_child (elements l.arguments) ≡ option_map (λ n. l.k + n) (to_child (elements (drop l.k l.arguments)))
