use Rattle.std.proofs.Common.{◌≡◌, ◌∙◌, ap, sym}
use Rattle.slotted_slots.specs.Maps.{is_among, values}
use Rattle.slotted_slots.proofs.Among.{among-contains, contains-among}
use Rattle.slotted_slots.proofs.slot_map.SlotMap.has_value.Goals as goal

pub returns-clause-contains : goal.returns-clause-contains
returns-clause-contains c =
    let v = c.args.v in
    let xs = values c.args.self.now in
    let e : is_among v (values c.as_slice.result.now) ≡ is_among v xs =
    ap (λ m. is_among v (values m)) (c.as_slice.ensures.value ∙ c.self.view_is) in (
      λ y. among-contains v xs (sym e ∙ (sym c.has_value.ensures ∙ y)),
      λ h. c.has_value.ensures ∙ (e ∙ contains-among v xs h),
    )
