-- The pairs so far were fed.
use Rattle.std.proofs.Common.{◌≡◌, flat_map, fold, take}
use Rattle.slotted_slots.specs.Hashing.{pair_input}
use Rattle.slotted_slots.proofs.slot_map.hash_pairs.Given as goal

abbrev pub invariant-loop-pair : goal.invariant-loop-pair
invariant-loop-pair g l = l.state ≡ fold g.H.Hasher.write l.initial.state (flat_map pair_input (take l.pair-index l.pairs))
