-- The other map knows all values, so all keys stay.
use Rattle.std.proofs.Common.{◌≡◌, ap, ◌∙◌, Ok, Err, IfOk}
use Rattle.slotted_slots.specs.Maps.{composed, keys, values}
use Rattle.slotted_slots.proofs.CombiningLaws.{KnowsAll-from_keys}
use Rattle.slotted_slots.proofs.MapLaws.{keys-composed}
use Rattle.slotted_slots.proofs.slot_map.SlotMap.compose.Goals as goal

pub returns-clause-keys : goal.returns-clause-keys
returns-clause-keys c =
    let kept = keys-composed c.args.self.now c.args.other.now (KnowsAll-from_keys c.args.other.now (values c.args.self.now) c.requires) in
    elim c.compose_partial.result as (λ r. IfOk r (λ m. m ≡ composed c.args.self.now c.args.other.now) → IfOk r (λ m. keys m ≡ keys c.args.self.now)) [
      | Ok m ↦ λ ok. ap keys ok ∙ kept
      | Err e ↦ λ ok. tt
    ] c.compose_partial.ensures.ok
