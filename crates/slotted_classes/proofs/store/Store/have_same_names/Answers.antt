use Rattle.std.proofs.Common.{◌≡◌, ◌<◌, ◌∙◌, length, ap, sym, arith, refl}
use Rattle.std.specs.Cmp.{unsigned_Decides}
use Rattle.slotted_lists.proofs.Maps.{length-values}
use Rattle.slotted_theory.specs.FiniteMaps.{value_of}
use Rattle.slotted_slots.specs.Maps.{values}
use Rattle.slotted_model.specs.Applied.{Applied}
use Rattle.slotted_model.specs.Find.{find}
use Rattle.slotted_classes.specs.Kept.{entries_of}
use Rattle.slotted_proofs.specs.Equations.{to_applied}
use Rattle.slotted_classes.proofs.Chasing.{same-names_at, option_same}
use Rattle.slotted_classes.proofs.NameMaps.{below_next}
use Rattle.slotted_classes.proofs.store.Store.have_same_names.Goals as goal

pub loop-i-preserved : goal.loop-i-preserved
loop-i-preserved g c =
    let found = entries_of c.args.self.now in
    let m = c.entry.result.now.m in
    let l : c.loop-i.i < length (values m) = omega (arith, length-values m, c.len-i-end.ensures.len, c.loop-i-test.true) in
    let same : c.found_name.result ≡ c.found_name-in-loop-i.result = option_same (λ x y e. (unsigned_Decides x y).0 e) c.found_name.result c.found_name-in-loop-i.result (sym c.ne.ensures ∙ c.if-ne.false) in
    below_next (λ x. value_of (find found (to_applied c.args.a.now)).1 x ≡ value_of (find found (to_applied c.args.b.now)).1 x) (values m) c.loop-i.i c.value_at-slot.result l c.value_at-slot.ensures
    (sym c.found_name.ensures ∙ (same ∙ c.found_name-in-loop-i.ensures)) c.loop-i.invariant

pub returns : goal.returns
returns g c =
    let m = c.entry.result.now.m in (
      λ y. same-names_at c.args.self.now c.requires.good (to_applied c.args.a.now) (to_applied c.args.b.now) c.requires.left c.requires.right c.args.class c.requires.left_class c.requires.right_class c.requires.within
          m (ap (λ (a : Applied). a.1) c.entry.ensures) (λ j d l. c.loop-i.invariant j d (omega (arith, l, length-values m, c.len-i-end.ensures.len, c.loop-i-test.false))),
      λ e. refl,
    )
