use Rattle.std.proofs.Common.{◌≡◌, ◌↔◌}
use Rattle.slotted_model.specs.Applied.{keys}
use Rattle.slotted_proofs.proofs.steps.have_same_slots.Given as goal

-- the slots are the same exactly if the rests are
abbrev pub invariant-loop-slot : goal.invariant-loop-slot
invariant-loop-slot l = (keys l.slot-iterator ≡ keys l.others) ↔ (keys l.a ≡ keys l.b)
