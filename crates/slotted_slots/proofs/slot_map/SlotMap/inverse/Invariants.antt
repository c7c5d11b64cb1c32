-- The rest of the pairs goes in turned round after those so far.
use Rattle.std.proofs.Common.{◌≡◌, drop, fold}
use Rattle.slotted_slots.specs.Maps.{with_pair, map_of, turned}
use Rattle.slotted_slots.proofs.slot_map.SlotMap.inverse.Given as goal

abbrev pub invariant-loop-pair : goal.invariant-loop-pair
invariant-loop-pair l = fold (λ m p. with_pair m p.0 p.1) l.inverse (turned (drop l.pair-index l.pair-items)) ≡ map_of (turned l.pair-items)
