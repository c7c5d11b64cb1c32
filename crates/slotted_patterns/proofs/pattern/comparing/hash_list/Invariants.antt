-- The patterns so far were fed.
use Rattle.std.proofs.Common.{◌≡◌, flat_map, fold, map, take}
use Rattle.slotted_patterns.specs.Compared.{head_input}
use Rattle.slotted_patterns.specs.Shape.{head, shape}
use Rattle.slotted_patterns.proofs.pattern.comparing.hash_list.Given as goal

abbrev pub invariant-loop-pattern : goal.invariant-loop-pattern
invariant-loop-pattern g l =
    l.state ≡ fold g.H.Hasher.write l.initial.state (flat_map (head_input g.L.Hash.hash_input) (map (λ p. head (shape p.now)) (take l.pattern-index l.patterns)))
