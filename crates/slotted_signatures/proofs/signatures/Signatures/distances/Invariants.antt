use Rattle.std.proofs.Common.{◌≡◌, map, take}
use Rattle.slotted_signatures.specs.Nearest.{edits}
use Rattle.slotted_signatures.proofs.signatures.Signatures.distances.Given as goal

abbrev pub invariant-loop-signature : goal.invariant-loop-signature
invariant-loop-signature l = l.distances.items ≡ map (λ u. edits l.word u.word) (take l.signature-index l.self)
