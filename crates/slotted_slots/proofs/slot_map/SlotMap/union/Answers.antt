-- The pairs of the other map went in over those of this one, with which they agree.
use Rattle.std.proofs.Common.{refl, ap, subst, ◌∙◌, ◌+◌, drop, sym}
use Rattle.slotted_slots.specs.Ascending.{IsAscending}
use Rattle.slotted_slots.specs.Combining.{joined}
use Rattle.slotted_slots.specs.Maps.{keys, value_of}
use Rattle.slotted_slots.proofs.CombiningLaws.{value_of-joined}
use Rattle.slotted_slots.proofs.Loops.{folded_all, next_element}
use Rattle.slotted_slots.proofs.slot_map.SlotMap.union.Goals as goal

pub returns-clause-values : goal.returns-clause-values
returns-clause-values c k =
    let pairs = c.deref-pair-items.result.now in
    let whole = folded_all joined (λ _. refl) c.loop-pair.union _ pairs c.loop-pair.pair-index c.loop-pair-test.false c.loop-pair.invariant in
    let same = c.deref-pair-items.ensures.value ∙ c.other.view_is in
    let up = subst (λ m. IsAscending (keys m)) c.other.view_is c.other.invariant in
    ap (λ m. value_of m k) (whole ∙ ap (joined c.args.self.now) same) ∙ value_of-joined c.args.self.now c.args.other.now up c.requires k

pub loop-pair-preserved : goal.loop-pair-preserved
loop-pair-preserved c =
    let pairs = c.deref-pair-items.result.now in
    let i = c.loop-pair.pair-index in
    ap (λ s. joined s (drop (i + 1) pairs)) c.in_ok-insert.ensures.ok
    ∙ (ap (joined c.loop-pair.union) (sym (next_element pairs i c.pair-item.result c.loop-pair-test.true c.pair-item.is)) ∙ c.loop-pair.invariant)

pub returns-clause-ok : goal.returns-clause-ok
returns-clause-ok c =
    let whole = folded_all joined (λ _. refl) c.loop-pair.union _ c.deref-pair-items.result.now c.loop-pair.pair-index c.loop-pair-test.false c.loop-pair.invariant in
    whole ∙ ap (joined c.args.self.now) (c.deref-pair-items.ensures.value ∙ c.other.view_is)
