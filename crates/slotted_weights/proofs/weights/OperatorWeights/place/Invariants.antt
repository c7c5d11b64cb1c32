use Rattle.std.proofs.Common.{◌≡◌, ◌+◌, drop}
use Rattle.std.specs.Prelude.{option_map}
use Rattle.slotted_weights.specs.OperatorWeights.{place_of}
use Rattle.slotted_weights.proofs.weights.OperatorWeights.place.Given as goal

abbrev pub invariant-loop-i : goal.invariant-loop-i
invariant-loop-i l = place_of l.self-inside.items.items l.word ≡ option_map (λ n. l.i + n) (place_of (drop l.i l.self-inside.items.items) l.word)
