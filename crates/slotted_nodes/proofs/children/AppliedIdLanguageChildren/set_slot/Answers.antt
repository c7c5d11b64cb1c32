-- The keys stay, and one value changes.
use Rattle.std.proofs.Common.{refl}
use Rattle.slotted_slots.specs.Maps.{keys-with_value_at, values-with_value_at}
use Rattle.slotted_nodes.proofs.children.AppliedIdLanguageChildren.set_slot.Goals as goal

pub returns : goal.returns
returns c = rw c.set_value_at.ensures (rw (keys-with_value_at, values-with_value_at) refl)
