-- The value takes the place of the old one, or key and value go into the gap.
use Rattle.std.proofs.Common.{Some, sym, ap, subst, arith, length, ◌<◌, ◌∙◌}
use Rattle.std.specs.Prelude.{IsSome}
use Rattle.std.specs.List.{zip, insert}
use Rattle.std.specs.List.Sorted.{IsStrictlySortedBy}
use Rattle.std.proofs.lemmas.Bool.{false≢true}
use Rattle.std.proofs.lemmas.Option.{slice_get-get_or}
use Rattle.slotted_slots.specs.Sets.{IsPlaceOf, IsGap}
use Rattle.slotted_maps.specs.SmallMaps.{entry_value, insert_entry}
use Rattle.slotted_slots.proofs.SetLemmas.{insert_key-gap, IsStrictlySortedBy-insert_key}
use Rattle.slotted_maps.proofs.SmallMapLaws.{entry_value-at, entry_value-gap, insert_entry-at, insert_entry-gap}
use Rattle.slotted_maps.proofs.small_map.SmallHashMap.insert.Goals as goal

pub returns-in_err-reserve-in-Err-clause-overwrites : goal.returns-in_err-reserve-in-Err-clause-overwrites
returns-in_err-reserve-in-Err-clause-overwrites g c some =
    let cmp = g.K.Ord.cmp in
    let o = g.met.K.Ord.total in
    let ks = c.self.inside.keys.items in
    let vs = c.self.inside.values.items in
    let same = c.self.invariant.same_length in
    let up = c.self.invariant.ascending in
    let gap = subst (λ xs. IsGap cmp xs c.args.k c.in-Err.at) c.as_slice.ensures c.in-Err.ensures.absent in
    let none = sym (ap (λ es. entry_value cmp es c.args.k) c.self.view_is) ∙ entry_value-gap o ks vs c.args.k c.in-Err.at gap in
    absurd (false≢true (subst IsSome none some))

pub returns-in_err-insert-in-Err-clause-overwrites : goal.returns-in_err-insert-in-Err-clause-overwrites
returns-in_err-insert-in-Err-clause-overwrites g c some =
    let cmp = g.K.Ord.cmp in
    let o = g.met.K.Ord.total in
    let ks = c.self.inside.keys.items in
    let vs = c.self.inside.values.items in
    let same = c.self.invariant.same_length in
    let up = c.self.invariant.ascending in
    let gap = subst (λ xs. IsGap cmp xs c.args.k c.in-Err.at) c.as_slice.ensures c.in-Err.ensures.absent in
    let none = sym (ap (λ es. entry_value cmp es c.args.k) c.self.view_is) ∙ entry_value-gap o ks vs c.args.k c.in-Err.at gap in
    absurd (false≢true (subst IsSome none some))

pub invariant_of-self-in-Err : goal.invariant_of-self-in-Err
invariant_of-self-in-Err g c =
    let cmp = g.K.Ord.cmp in
    let o = g.met.K.Ord.total in
    let ks = c.self.inside.keys.items in
    let vs = c.self.inside.values.items in
    let same = c.self.invariant.same_length in
    let up = c.self.invariant.ascending in
    let gap = subst (λ xs. IsGap cmp xs c.args.k c.in-Err.at) c.as_slice.ensures c.in-Err.ensures.absent in
    let put = c.in_ok-insert-in-Err-2.ensures.ok ∙ ap (λ xs. insert xs c.in-Err.at c.args.k) c.reserve.ensures.items in
    record {
      same_length = omega (arith, c.in_ok-insert-in-Err.ensures.len, c.in_ok-insert-in-Err-2.ensures.len, ap length c.reserve.ensures.items, same);
      ascending = subst (IsStrictlySortedBy cmp) (insert_key-gap o ks c.args.k c.in-Err.at gap ∙ sym put) (IsStrictlySortedBy-insert_key o ks c.args.k up);
    }

pub returns-in-Ok-clause-ok : goal.returns-in-Ok-clause-ok
returns-in-Ok-clause-ok g c =
    let cmp = g.K.Ord.cmp in
    let o = g.met.K.Ord.total in
    let ks = c.self.inside.keys.items in
    let vs = c.self.inside.values.items in
    let same = c.self.invariant.same_length in
    let up = c.self.invariant.ascending in
    let here = subst (λ xs. IsPlaceOf cmp xs c.args.k c.in-Ok.at) c.as_slice.ensures c.in-Ok.ensures.found in
    ap (λ ws. zip ks ws) c.replace_value.ensures.items ∙ (sym (insert_entry-at o ks vs same up c.args.k c.args.v c.in-Ok.at here) ∙ ap (λ es. insert_entry cmp es c.args.k c.args.v) c.self.view_is)

pub returns-in-Ok-clause-before : goal.returns-in-Ok-clause-before
returns-in-Ok-clause-before g c =
    let cmp = g.K.Ord.cmp in
    let o = g.met.K.Ord.total in
    let ks = c.self.inside.keys.items in
    let vs = c.self.inside.values.items in
    let same = c.self.invariant.same_length in
    let up = c.self.invariant.ascending in
    let here = subst (λ xs. IsPlaceOf cmp xs c.args.k c.in-Ok.at) c.as_slice.ensures c.in-Ok.ensures.found in
    let lt : c.in-Ok.at < length vs = omega (arith, here.in_range, same) in
    ap Some c.replace_value.ensures.before ∙ (sym (slice_get-get_or vs c.in-Ok.at c.replace_value.result lt)
    ∙ (sym (entry_value-at o ks vs same up c.args.k c.in-Ok.at here) ∙ ap (λ es. entry_value cmp es c.args.k) c.self.view_is))

pub returns-in_ok-insert-in-Err-2-clause-ok : goal.returns-in_ok-insert-in-Err-2-clause-ok
returns-in_ok-insert-in-Err-2-clause-ok g c =
    let cmp = g.K.Ord.cmp in
    let o = g.met.K.Ord.total in
    let ks = c.self.inside.keys.items in
    let vs = c.self.inside.values.items in
    let same = c.self.invariant.same_length in
    let up = c.self.invariant.ascending in
    let gap = subst (λ xs. IsGap cmp xs c.args.k c.in-Err.at) c.as_slice.ensures c.in-Err.ensures.absent in
    let put = c.in_ok-insert-in-Err-2.ensures.ok ∙ ap (λ xs. insert xs c.in-Err.at c.args.k) c.reserve.ensures.items in
    (λ i. zip (put i) (c.in_ok-insert-in-Err.ensures.ok i)) ∙ (sym (insert_entry-gap o ks vs same c.args.k c.args.v c.in-Err.at gap) ∙ ap (λ es. insert_entry cmp es c.args.k c.args.v) c.self.view_is)

pub returns-in_ok-insert-in-Err-2-clause-before : goal.returns-in_ok-insert-in-Err-2-clause-before
returns-in_ok-insert-in-Err-2-clause-before g c =
    let cmp = g.K.Ord.cmp in
    let o = g.met.K.Ord.total in
    let ks = c.self.inside.keys.items in
    let vs = c.self.inside.values.items in
    let same = c.self.invariant.same_length in
    let up = c.self.invariant.ascending in
    let gap = subst (λ xs. IsGap cmp xs c.args.k c.in-Err.at) c.as_slice.ensures c.in-Err.ensures.absent in
    sym (entry_value-gap o ks vs c.args.k c.in-Err.at gap) ∙ ap (λ es. entry_value cmp es c.args.k) c.self.view_is
