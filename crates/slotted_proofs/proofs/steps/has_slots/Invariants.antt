use Rattle.std.proofs.Common.{◌≡◌, ◌↔◌, drop}
use Rattle.slotted_model.specs.Applied.{keys}
use Rattle.slotted_proofs.proofs.steps.has_slots.Given as goal

-- the map has these slots exactly if what is left of it has those that are left
abbrev pub invariant-loop-asked : goal.invariant-loop-asked
invariant-loop-asked l = (keys l.pairs ≡ drop l.asked-index l.slots) ↔ (keys l.map ≡ l.slots)
