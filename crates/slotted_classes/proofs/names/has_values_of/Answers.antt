use Rattle.std.proofs.Common.{◌≡◌, ◌<◌, ◌∙◌, length, sym, subst, arith, refl, slice_index_or}
use Rattle.std.specs.Prelude.{Contains}
use Rattle.std.proofs.lemmas.Bool.{false≢true}
use Rattle.std.proofs.lemmas.Option.{get_or_from_slice_get}
use Rattle.slotted_lists.proofs.Members.{In, In-Contains, Contains-In}
use Rattle.slotted_lists.proofs.Maps.{length-values}
use Rattle.slotted_slots.specs.Maps.{values}
use Rattle.slotted_classes.proofs.NameMaps.{In-at, at_In, below_next}
use Rattle.slotted_classes.proofs.names.has_values_of.Goals as goal

pub returns-then-not-has_value : goal.returns-then-not-has_value
returns-then-not-has_value c = (
  λ y. absurd (false≢true y),
  λ h.
      let xs = values c.args.map.now in
      let l : c.loop-i.i < length xs = omega (arith, length-values c.args.map.now, c.len-i-end.ensures.len, c.loop-i-test.true) in
      let e : slice_index_or xs c.loop-i.i 0 ≡ c.value_at.result = get_or_from_slice_get xs c.loop-i.i c.value_at.result 0 c.value_at.ensures in
      absurd (false≢true (sym c.if-not-has_value.true ∙ c.has_value.ensures.contains.1 (h c.value_at.result (Contains-In xs c.value_at.result (subst (λ x. In x xs) e (In-at xs c.loop-i.i 0 l)))))),
)

pub loop-i-preserved : goal.loop-i-preserved
loop-i-preserved c =
    below_next (Contains (values c.args.other.now)) (values c.args.map.now) c.loop-i.i c.value_at.result
    (omega (arith, length-values c.args.map.now, c.len-i-end.ensures.len, c.loop-i-test.true)) c.value_at.ensures
    (c.has_value.ensures.contains.0 c.if-not-has_value.false) c.loop-i.invariant

pub returns : goal.returns
returns c = (
  λ y. λ x h. at_In (Contains (values c.args.other.now)) (values c.args.map.now) (λ k d l. c.loop-i.invariant k d (omega (arith, l, length-values c.args.map.now, c.len-i-end.ensures.len, c.loop-i-test.false))) x (In-Contains (values c.args.map.now) x h),
  λ h. refl,
)
