use Rattle.std.proofs.Common.{◌≡◌, map, take}
use Rattle.std.specs.List.{filter}
use Rattle.std.specs.Str.{bytes_eq}
use Rattle.slotted_signatures.proofs.signatures.Signatures.examples_of.Given as goal

abbrev pub invariant-loop-signature : goal.invariant-loop-signature
invariant-loop-signature l =
    map (λ t. t.now) l.examples.items ≡ map (λ u. u.example) (filter (λ u. bytes_eq u.word l.word) (take l.signature-index l.self))
