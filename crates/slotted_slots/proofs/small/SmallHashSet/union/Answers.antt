-- The elements of the other set went in after those of this one.
use Rattle.std.proofs.Common.{refl, ap, ◌∙◌, sym, ◌+◌, drop, subst}
use Rattle.slotted_slots.specs.Sets.{has}
use Rattle.slotted_slots.specs.SetAlgebra.{united}
use Rattle.slotted_slots.proofs.Loops.{folded_all, next_element}
use Rattle.slotted_slots.proofs.SetAlgebraLaws.{has-united}
use Rattle.std.specs.List.Sorted.{IsStrictlySortedBy}
use Rattle.slotted_slots.proofs.small.SmallHashSet.union.Goals as goal

pub returns-clause-members : goal.returns-clause-members
returns-clause-members g c t =
    let cmp = g.T.Ord.cmp in
    let items = c.as_slice-item-items.result.now in
    let whole = folded_all (united cmp) (λ _. refl) c.loop-item.union _ items c.loop-item.item-index c.loop-item-test.false c.loop-item.invariant in
    let same = c.as_slice-item-items.ensures ∙ c.other.view_is in
    ap (λ s. has cmp s t) (whole ∙ ap (united cmp c.args.self.now) same) ∙ has-united g.met.T.Ord.total c.args.self.now c.args.other.now t

pub loop-item-preserved : goal.loop-item-preserved
loop-item-preserved g c =
    let cmp = g.T.Ord.cmp in
    let items = c.as_slice-item-items.result.now in
    let i = c.loop-item.item-index in
    ap (λ s. united cmp s (drop (i + 1) items)) c.in_ok-insert.ensures.ok
    ∙ (ap (united cmp c.loop-item.union) (sym (next_element items i c.item-item.result c.loop-item-test.true c.item-item.is)) ∙ c.loop-item.invariant)

pub returns-clause-ok : goal.returns-clause-ok
returns-clause-ok g c =
    let cmp = g.T.Ord.cmp in
    let items = c.as_slice-item-items.result.now in
    let whole = folded_all (united cmp) (λ _. refl) c.loop-item.union _ items c.loop-item.item-index c.loop-item-test.false c.loop-item.invariant in
    whole ∙ ap (united cmp c.args.self.now) (c.as_slice-item-items.ensures ∙ c.other.view_is)

pub invariant_of-union : goal.invariant_of-union
invariant_of-union g c = subst (IsStrictlySortedBy g.T.Ord.cmp) (sym (c.in_ok-items.ensures.ok ∙ c.as_slice.ensures)) c.self.invariant

pub loop-item-init : goal.loop-item-init
loop-item-init g c = ap (λ s. united g.T.Ord.cmp s c.as_slice-item-items.result.now) (c.in_ok-items.ensures.ok ∙ (c.as_slice.ensures ∙ c.self.view_is))
