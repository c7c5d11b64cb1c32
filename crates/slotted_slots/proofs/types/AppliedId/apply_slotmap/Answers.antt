-- The other map knows all values, so all keys stay.
use Rattle.std.proofs.Common.{ap, ◌∙◌}
use Rattle.slotted_slots.specs.Maps.{keys}
use Rattle.slotted_slots.proofs.MapLaws.{keys-composed}
use Rattle.slotted_slots.proofs.types.AppliedId.apply_slotmap.Goals as goal

pub returns-clause-keys : goal.returns-clause-keys
returns-clause-keys c = ap keys (c.new.ensures.map ∙ c.in_ok-compose_partial.ensures.ok) ∙ keys-composed _ _ c.requires.known
