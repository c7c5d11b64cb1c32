-- The rest of the pairs goes in after those so far.
use Rattle.std.proofs.Common.{◌≡◌, drop, fold}
use Rattle.slotted_slots.specs.Maps.{with_pair, map_of}
use Rattle.slotted_slots.proofs.slot_map.SlotMap.from_pairs.Given as goal

abbrev pub invariant-loop-pair : goal.invariant-loop-pair
invariant-loop-pair l = fold (λ m p. with_pair m p.0 p.1) l.map (drop l.pair-index l.pairs) ≡ map_of l.pairs
