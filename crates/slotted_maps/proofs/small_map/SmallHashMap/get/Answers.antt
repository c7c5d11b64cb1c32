-- The value stands at the place of the key.
use Rattle.std.proofs.Common.{◌<◌, Some, length, sym, ap, subst, arith, ◌∙◌}
use Rattle.std.specs.Prelude.{slice_index_or}
use Rattle.std.proofs.lemmas.Option.{slice_get-get_or}
use Rattle.slotted_slots.specs.Sets.{IsPlaceOf, IsGap}
use Rattle.slotted_maps.specs.SmallMaps.{entry_value}
use Rattle.slotted_maps.proofs.SmallMapLaws.{entry_value-at, entry_value-gap}
use Rattle.slotted_maps.proofs.small_map.SmallHashMap.get.Goals as goal

pub returns-in-Ok : goal.returns-in-Ok
returns-in-Ok g c =
    let cmp = g.K.Ord.cmp in
    let here = subst (λ ks. IsPlaceOf cmp ks c.args.k.now c.in-Ok.at) c.as_slice.ensures c.in-Ok.ensures.found in
    let value = entry_value-at g.met.K.Ord.total c.self.inside.keys.items c.self.inside.values.items c.self.invariant.same_length c.self.invariant.ascending c.args.k.now c.in-Ok.at here in
    let lt : c.in-Ok.at < length c.self.inside.values.items = omega (arith, here.in_range, c.self.invariant.same_length) in
    ap Some c.index-deref-at.is ∙ (ap (λ vs. Some (slice_index_or vs c.in-Ok.at c.index-deref-at.result)) c.deref.ensures ∙ (sym (slice_get-get_or c.self.inside.values.items c.in-Ok.at c.index-deref-at.result lt) ∙ (sym value ∙ ap (λ es. entry_value cmp es c.args.k.now) c.self.view_is)))

pub returns-in-Err : goal.returns-in-Err
returns-in-Err g c =
    let cmp = g.K.Ord.cmp in
    let gap = subst (λ ks. IsGap cmp ks c.args.k.now c.in-Err.field-0) c.as_slice.ensures c.in-Err.ensures.absent in
    sym (entry_value-gap g.met.K.Ord.total c.self.inside.keys.items c.self.inside.values.items c.args.k.now c.in-Err.field-0 gap) ∙ ap (λ es. entry_value cmp es c.args.k.now) c.self.view_is
