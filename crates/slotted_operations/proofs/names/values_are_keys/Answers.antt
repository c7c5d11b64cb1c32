use Rattle.std.proofs.Common.{◌∙◌, arith, sym, subst, refl}
use Rattle.std.specs.Prelude.{IsSome}
use Rattle.std.proofs.lemmas.Bool.{false≢true}
use Rattle.std.proofs.lemmas.Option.{get_or_from_slice_get}
use Rattle.slotted_lists.proofs.Maps.{length-values, length-keys}
use Rattle.slotted_slots.specs.Maps.{values, value_of}
use Rattle.slotted_classes.proofs.DistinctValues.{values_keys, keys_values, keys_as_many}
use Rattle.slotted_classes.proofs.NameMaps.{below_next}
use Rattle.slotted_operations.proofs.names.values_are_keys.Goals as goal

pub returns-then-len : goal.returns-then-len
returns-then-len c = (
  λ y. absurd (false≢true y),
  λ e.
      let n = keys_as_many c.args.slots.now c.args.map.now c.requires e in
      absurd (omega (arith, n, length-values c.args.slots.now, length-keys c.args.map.now, c.len.ensures.len, c.len-2.ensures.len, c.if-len.true)),
)

pub returns-then-not-contains_key : goal.returns-then-not-contains_key
returns-then-not-contains_key c = (
  λ y. absurd (false≢true y),
  λ e.
      let i = c.loop-i.i in
      let x = c.value_at.result in
      let h : IsSome (value_of c.args.map.now x) =
      subst (λ z. IsSome (value_of c.args.map.now z)) (get_or_from_slice_get (values c.args.slots.now) i x 0 c.value_at.ensures)
      (keys_values c.args.slots.now c.args.map.now e i 0 (omega (arith, length-values c.args.slots.now, c.len-i-end.ensures.len, c.loop-i-test.true))) in
      absurd (false≢true (sym c.if-not-contains_key.true ∙ (c.contains_key.ensures ∙ h))),
)

pub loop-i-preserved : goal.loop-i-preserved
loop-i-preserved c =
    below_next (λ x. IsSome (value_of c.args.map.now x)) (values c.args.slots.now) c.loop-i.i c.value_at.result
    (omega (arith, length-values c.args.slots.now, c.len-i-end.ensures.len, c.loop-i-test.true)) c.value_at.ensures
    (sym c.contains_key.ensures ∙ c.if-not-contains_key.false) c.loop-i.invariant

pub returns : goal.returns
returns c = (
  λ y. values_keys c.args.slots.now c.args.map.now c.requires c.len-2.ensures.ascending
      (omega (arith, length-values c.args.slots.now, length-keys c.args.map.now, c.len.ensures.len, c.len-2.ensures.len, c.if-len.false))
      (λ k d l. c.loop-i.invariant k d (omega (arith, l, length-values c.args.slots.now, c.len-i-end.ensures.len, c.loop-i-test.false))),
  λ e. refl,
)
