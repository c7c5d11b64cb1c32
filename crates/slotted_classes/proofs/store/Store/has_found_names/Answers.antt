use Rattle.std.proofs.Common.{◌<◌, ◌∙◌, length, ap, sym, arith, refl}
use Rattle.std.proofs.lemmas.Bool.{false≢true}
use Rattle.slotted_lists.proofs.Maps.{length-values}
use Rattle.slotted_slots.specs.Maps.{values}
use Rattle.slotted_model.specs.Applied.{Applied}
use Rattle.slotted_proofs.specs.Equations.{to_applied}
use Rattle.slotted_classes.specs.Finding.{HasFoundName}
use Rattle.slotted_classes.proofs.Chasing.{all-names, each-name}
use Rattle.slotted_classes.proofs.NameMaps.{below_next}
use Rattle.slotted_classes.proofs.store.Store.has_found_names.Goals as goal

pub loop-i-preserved : goal.loop-i-preserved
loop-i-preserved g c =
    let m = c.entry.result.now.m in
    let l : c.loop-i.i < length (values m) = omega (arith, length-values m, c.len-i-end.ensures.len, c.loop-i-test.true) in
    below_next (HasFoundName c.args.self.now (to_applied c.args.a.now)) (values m) c.loop-i.i c.value_at.result l c.value_at.ensures
    (c.has_found_name.ensures.0 c.if-not-has_found_name.false) c.loop-i.invariant

pub returns-then-not-has_found_name : goal.returns-then-not-has_found_name
returns-then-not-has_found_name g c = (
  λ y. absurd (false≢true y),
  λ h. absurd (false≢true (sym c.if-not-has_found_name.true ∙ c.has_found_name.ensures.1 (each-name c.args.self.now c.requires.good (to_applied c.args.a.now) c.requires.within h c.value_at.result))),
)

pub returns : goal.returns
returns g c =
    let m = c.entry.result.now.m in (
      λ y. all-names c.args.self.now c.requires.good (to_applied c.args.a.now) c.requires.within c.find_class.result c.find_class.ensures.class c.find_class.ensures.within m
          (ap (λ (a : Applied). a.1) c.entry.ensures) (λ j d l. c.loop-i.invariant j d (omega (arith, l, length-values m, c.len-i-end.ensures.len, c.loop-i-test.false))),
      λ h. refl,
    )
