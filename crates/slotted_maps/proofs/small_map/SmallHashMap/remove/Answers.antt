-- The key and its value go from one place; with none the map stays.
use Rattle.std.proofs.Common.{Some, sym, ap, subst, arith, length, ◌<◌, ◌∙◌}
use Rattle.std.specs.List.{zip}
use Rattle.std.specs.List.Sorted.{IsStrictlySortedBy}
use Rattle.std.proofs.lemmas.Option.{slice_get-get_or}
use Rattle.slotted_slots.specs.Sets.{IsPlaceOf, IsGap}
use Rattle.slotted_maps.specs.SmallMaps.{entry_value, without_entry}
use Rattle.slotted_slots.proofs.SetAlgebraLaws.{without-at, IsStrictlySortedBy-without}
use Rattle.slotted_maps.proofs.SmallMapLaws.{entry_value-at, entry_value-gap, without_entry-at, without_entry-gap}
use Rattle.slotted_maps.proofs.small_map.SmallHashMap.remove.Goals as goal

pub invariant_of-self : goal.invariant_of-self
invariant_of-self g c =
    let cmp = g.K.Ord.cmp in
    let o = g.met.K.Ord.total in
    let ks = c.self.inside.keys.items in
    let vs = c.self.inside.values.items in
    let same = c.self.invariant.same_length in
    let up = c.self.invariant.ascending in
    let here = subst (λ xs. IsPlaceOf cmp xs c.args.k.now c.in-Ok.at) c.as_slice.ensures c.in-Ok.ensures.found in
    let gone = without-at o ks up c.args.k.now c.in-Ok.at here in
    record {
      same_length = omega (arith, c.remove.ensures.len, c.remove-in-Ok.ensures.len, same);
      ascending = subst (IsStrictlySortedBy cmp) (gone ∙ sym c.remove.ensures.items) (IsStrictlySortedBy-without o ks c.args.k.now up);
    }

pub returns-in-Ok-clause-map : goal.returns-in-Ok-clause-map
returns-in-Ok-clause-map g c =
    let cmp = g.K.Ord.cmp in
    let o = g.met.K.Ord.total in
    let ks = c.self.inside.keys.items in
    let vs = c.self.inside.values.items in
    let same = c.self.invariant.same_length in
    let up = c.self.invariant.ascending in
    let here = subst (λ xs. IsPlaceOf cmp xs c.args.k.now c.in-Ok.at) c.as_slice.ensures c.in-Ok.ensures.found in
    (λ i. zip (c.remove.ensures.items i) (c.remove-in-Ok.ensures.items i)) ∙ (sym (without_entry-at o ks vs same up c.args.k.now c.in-Ok.at here) ∙ ap (λ es. without_entry cmp es c.args.k.now) c.self.view_is)

pub returns-in-Ok-clause-value : goal.returns-in-Ok-clause-value
returns-in-Ok-clause-value g c =
    let cmp = g.K.Ord.cmp in
    let o = g.met.K.Ord.total in
    let ks = c.self.inside.keys.items in
    let vs = c.self.inside.values.items in
    let same = c.self.invariant.same_length in
    let up = c.self.invariant.ascending in
    let here = subst (λ xs. IsPlaceOf cmp xs c.args.k.now c.in-Ok.at) c.as_slice.ensures c.in-Ok.ensures.found in
    let lt : c.in-Ok.at < length vs = omega (arith, here.in_range, same) in
    ap Some c.remove-in-Ok.ensures.value ∙ (sym (slice_get-get_or vs c.in-Ok.at c.remove-in-Ok.result lt)
    ∙ (sym (entry_value-at o ks vs same up c.args.k.now c.in-Ok.at here) ∙ ap (λ es. entry_value cmp es c.args.k.now) c.self.view_is))

pub returns-in-Err-clause-map : goal.returns-in-Err-clause-map
returns-in-Err-clause-map g c =
    let cmp = g.K.Ord.cmp in
    let o = g.met.K.Ord.total in
    let ks = c.self.inside.keys.items in
    let vs = c.self.inside.values.items in
    let same = c.self.invariant.same_length in
    let up = c.self.invariant.ascending in
    let gap = subst (λ xs. IsGap cmp xs c.args.k.now c.in-Err.field-0) c.as_slice.ensures c.in-Err.ensures.absent in
    sym (ap (λ es. without_entry cmp es c.args.k.now) (sym c.self.view_is) ∙ (without_entry-gap o ks vs c.args.k.now c.in-Err.field-0 gap ∙ c.self.view_is))

pub returns-in-Err-clause-value : goal.returns-in-Err-clause-value
returns-in-Err-clause-value g c =
    let cmp = g.K.Ord.cmp in
    let o = g.met.K.Ord.total in
    let ks = c.self.inside.keys.items in
    let vs = c.self.inside.values.items in
    let same = c.self.invariant.same_length in
    let up = c.self.invariant.ascending in
    let gap = subst (λ xs. IsGap cmp xs c.args.k.now c.in-Err.field-0) c.as_slice.ensures c.in-Err.ensures.absent in
    sym (entry_value-gap o ks vs c.args.k.now c.in-Err.field-0 gap) ∙ ap (λ es. entry_value cmp es c.args.k.now) c.self.view_is
