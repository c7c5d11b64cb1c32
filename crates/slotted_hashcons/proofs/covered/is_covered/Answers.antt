use Rattle.std.proofs.Common.{◌<◌, ◌∙◌, length, ap, sym, arith, refl}
use Rattle.std.proofs.lemmas.Bool.{false≢true}
use Rattle.slotted_lists.proofs.Maps.{length-values}
use Rattle.slotted_slots.specs.Maps.{values}
use Rattle.slotted_model.specs.Applied.{Applied}
use Rattle.slotted_classes.proofs.NameMaps.{below_next}
use Rattle.slotted_hashcons.specs.FoundNodes.{StandsIn}
use Rattle.slotted_hashcons.proofs.CoveredNodes.{covered-each, each-covered}
use Rattle.slotted_hashcons.proofs.covered.is_covered.Goals as goal

pub loop-i-preserved : goal.loop-i-preserved
loop-i-preserved g c =
    let m = c.entry.result.now.m in
    let l : c.loop-i.i < length (values m) = omega (arith, length-values m, c.len-i-end.ensures.len, c.loop-i-test.true) in
    below_next (StandsIn c.args.store.now c.args.class c.args.names.now) (values m) c.loop-i.i c.value_at.result l c.value_at.ensures
    (c.has_slot.ensures.0 c.if-not-has_slot.false) c.loop-i.invariant

pub returns-then-not-has_slot : goal.returns-then-not-has_slot
returns-then-not-has_slot g c = (
  λ y. absurd (false≢true y),
  λ h. absurd (false≢true (sym c.if-not-has_slot.true ∙ c.has_slot.ensures.1 (covered-each c.args.store.now c.requires.good c.args.class c.requires.within c.args.names.now c.requires.names h c.value_at.result))),
)

pub returns : goal.returns
returns g c =
    let m = c.entry.result.now.m in (
      λ y. each-covered c.args.store.now c.requires.good c.args.class c.requires.within c.args.names.now c.requires.names c.find_class.result c.find_class.ensures.class c.find_class.ensures.within m
          (ap (λ (a : Applied). a.1) c.entry.ensures) (λ j d l. c.loop-i.invariant j d (omega (arith, l, length-values m, c.len-i-end.ensures.len, c.loop-i-test.false))),
      λ h. refl,
    )
