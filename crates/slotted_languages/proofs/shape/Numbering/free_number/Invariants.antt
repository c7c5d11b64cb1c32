-- What is left has the number that all have.
use Rattle.std.proofs.Common.{◌≡◌}
use Rattle.slotted_languages.specs.Shape.{number_of}
use Rattle.slotted_languages.proofs.shape.Numbering.free_number.Given as goal

abbrev pub invariant-loop-number : goal.invariant-loop-number
invariant-loop-number l = number_of l.number-iterator l.name ≡ number_of l.self.free l.name
