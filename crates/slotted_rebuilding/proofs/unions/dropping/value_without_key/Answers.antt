use Rattle.std.proofs.Common.{◌≡◌, ◌<◌, ◌∙◌, length, sym, subst, arith, slice_index_or}
use Rattle.std.specs.Prelude.{Contains}
use Rattle.std.proofs.lemmas.Bool.{false≢true}
use Rattle.std.proofs.lemmas.Option.{get_or_from_slice_get}
use Rattle.slotted_lists.proofs.Members.{In, In-Contains, Contains-In}
use Rattle.slotted_lists.proofs.Maps.{length-values}
use Rattle.slotted_slots.specs.Maps.{keys, values}
use Rattle.slotted_languages.proofs.Counting.{In-value}
use Rattle.slotted_classes.proofs.NameMaps.{In-at, at_In, key-In, below_next}
use Rattle.slotted_rebuilding.proofs.unions.dropping.value_without_key.Goals as goal

pub returns-then-not-contains_key-clause-some : goal.returns-then-not-contains_key-clause-some
returns-then-not-contains_key-clause-some c =
    let xs = values c.args.slots.now in
    let slot = c.value_at-slot.result in
    let l : c.loop-i.i < length xs = omega (arith, length-values c.args.slots.now, c.len-i-end.ensures.len, c.loop-i-test.true) in
    let e : slice_index_or xs c.loop-i.i 0 ≡ slot = get_or_from_slice_get xs c.loop-i.i slot 0 c.value_at-slot.ensures in (
      Contains-In xs slot (subst (λ x. In x xs) e (In-at xs c.loop-i.i 0 l)),
      λ h. false≢true
          (sym c.if-not-contains_key.true ∙ (c.contains_key.ensures ∙ In-value c.args.map.now slot (In-Contains (keys c.args.map.now) slot h))),
    )

pub loop-i-preserved : goal.loop-i-preserved
loop-i-preserved c =
    let ks = keys c.args.map.now in
    let slot = c.value_at-slot.result in
    below_next (Contains ks) (values c.args.slots.now) c.loop-i.i slot
    (omega (arith, length-values c.args.slots.now, c.len-i-end.ensures.len, c.loop-i-test.true)) c.value_at-slot.ensures
    (Contains-In ks slot (key-In c.args.map.now slot (sym c.contains_key.ensures ∙ c.if-not-contains_key.false))) c.loop-i.invariant

pub returns-clause-none : goal.returns-clause-none
returns-clause-none c s h =
    let xs = values c.args.slots.now in
    at_In (Contains (keys c.args.map.now)) xs
    (λ k d l.
    c.loop-i.invariant k d (omega (arith, l, length-values c.args.slots.now, c.len-i-end.ensures.len, c.loop-i-test.false)))
    s (In-Contains xs s h)
