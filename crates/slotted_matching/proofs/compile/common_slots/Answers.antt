use Rattle.std.proofs.Common.{◌≡◌, ◌<◌, ◌++◌, length, sym, ap, ◌∙◌, arith, get_or, ◌∷◌, []}
use Rattle.std.specs.Prelude.{nat_eq}
use Rattle.slotted_matching.proofs.OwnSlots.{common-kept, common-pushed}
use Rattle.slotted_matching.proofs.compile.common_slots.Goals.{then-eq+in_ok-push, else-eq}
use Rattle.slotted_matching.proofs.compile.common_slots.Goals as goal

pub loop-i-preserved : goal.loop-i-preserved
loop-i-preserved g c =
    let form = g.L.LanguageChildren.form in
    let xs = (form c.args.first.now).names in
    let ys = (form c.args.second.now).names in
    let i = c.loop-i.i in
    let l : i < length xs = omega (arith, c.loop-i-test.true, c.slot_count-i-end.ensures, c.requires.small) in
    let same : c.eq.result ≡ nat_eq (get_or xs i 0) (get_or ys i 0) = c.eq.ensures ∙ (λ j. nat_eq (c.slot-slot.ensures j) (c.slot.ensures j)) in
    elim c.if-eq.branch [
      | then-eq+in_ok-push w ↦
          ap (λ v. v.items) w.slots-is
          ∙ (w.in_ok-push.ensures.items
          ∙ (ap (λ l. l ++ c.slot-slot.result ∷ []) c.loop-i.invariant
          ∙ common-pushed xs ys i c.slot-slot.result c.requires.same l (sym same ∙ w.if-eq.true) c.slot-slot.ensures))
      | else-eq w ↦ ap (λ v. v.items) w.slots-is ∙ (c.loop-i.invariant ∙ common-kept xs ys i c.requires.same l (sym same ∙ w.if-eq.false))
    ]
