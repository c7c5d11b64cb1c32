-- The children from the place at hand on were fed, from the right.
use Rattle.std.proofs.Common.{◌≡◌, ◌≤◌, flat_map, fold, map, drop, length}
use Rattle.slotted_patterns.specs.Compared.{head_input}
use Rattle.slotted_patterns.specs.Shape.{heads_in, shape, shapes_of}
use Rattle.slotted_patterns.proofs.pattern.comparing.+hash_by_calls.Given as goal

abbrev pub invariant-loop-k : goal.invariant-loop-k
invariant-loop-k g l = record {
  within : l.k ≤ length l.children.items;
  fed : l.state ≡ fold g.H.Hasher.write l.initial.state (flat_map (head_input g.L.Hash.hash_input) (heads_in (shapes_of (map shape (drop l.k l.children.items)))));
}

abbrev pub decreases-loop-k : goal.decreases-loop-k
decreases-loop-k g l = l.k
