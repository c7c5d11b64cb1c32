-- The loop has gone through all elements, and those that it kept rise.
use Rattle.std.proofs.Common.{not, refl, sym, ap, subst, ◌∙◌, Bool}
use Rattle.std.specs.List.Sorted.{IsStrictlySortedBy}
use Rattle.std.proofs.lemmas.List.Kept.{IsStrictlySortedBy-filter}
use Rattle.slotted_slots.specs.Sets.{has}
use Rattle.slotted_slots.specs.SetAlgebra.{remaining}
use Rattle.slotted_slots.proofs.Loops.{gathered_all, gathered_one, left_out}
use Rattle.slotted_slots.proofs.SetAlgebraLaws.{has-remaining}
use Rattle.std.specs.List.{filter}
use Rattle.slotted_lists.proofs.Lists.{filter-yes as passes}
use Rattle.slotted_slots.proofs.small.SmallHashSet.difference.Goals as goal
use Rattle.slotted_slots.proofs.small.SmallHashSet.difference.Goals.{then-lacks+in_ok-push, else-lacks}

pub invariant_of-result : goal.invariant_of-result
invariant_of-result g c =
    let cmp = g.T.Ord.cmp in
    let items = c.as_slice-item-items.result.now in
    let whole = gathered_all (λ xs. remaining cmp xs c.args.other.now) refl c.loop-item.items.items items c.loop-item.item-index c.loop-item-test.false c.loop-item.invariant in
    let up = subst (IsStrictlySortedBy cmp) (sym c.as_slice-item-items.ensures) c.self.invariant in
    subst (IsStrictlySortedBy cmp) (sym whole) (IsStrictlySortedBy-filter cmp (λ x. not (has cmp c.args.other.now x)) items up)

pub returns-clause-members : goal.returns-clause-members
returns-clause-members g c t =
    let cmp = g.T.Ord.cmp in
    let items = c.as_slice-item-items.result.now in
    let whole = gathered_all (λ xs. remaining cmp xs c.args.other.now) refl c.loop-item.items.items items c.loop-item.item-index c.loop-item-test.false c.loop-item.invariant in
    let same = c.as_slice-item-items.ensures ∙ c.self.view_is in
    ap (λ s. has cmp s t) (whole ∙ ap (λ xs. remaining cmp xs c.args.other.now) same) ∙ has-remaining g.met.T.Ord.total c.args.self.now c.args.other.now t

pub loop-item-preserved : goal.loop-item-preserved
loop-item-preserved g c =
    let cmp = g.T.Ord.cmp in
    let other = c.args.other.now in
    let items = c.as_slice-item-items.result.now in
    let i = c.loop-item.item-index in
    let x = c.item-item.result in
    let acc = c.loop-item.items.items in
    let kept : g.row.T.Denot → Bool = λ y. not (has cmp other y) in
    elim c.if-lacks.branch [
      | then-lacks+in_ok-push w ↦
          gathered_one (filter kept) acc c.if-lacks.items.items x items i x (passes kept x _ (ap not (sym c.contains-lacks.ensures ∙ w.if-lacks.true))) c.loop-item-test.true c.item-item.is (ap (λ v. v.items) w.items-is ∙ w.in_ok-push.ensures.ok)
          ∙ c.loop-item.invariant
      | else-lacks w ↦ left_out kept acc c.if-lacks.items.items items i x (ap not (sym c.contains-lacks.ensures ∙ w.if-lacks.false)) c.loop-item-test.true c.item-item.is (ap (λ v. v.items) w.items-is) ∙ c.loop-item.invariant
    ]

pub returns-clause-ok : goal.returns-clause-ok
returns-clause-ok g c =
    let cmp = g.T.Ord.cmp in
    let items = c.as_slice-item-items.result.now in
    let whole = gathered_all (λ xs. remaining cmp xs c.args.other.now) refl c.loop-item.items.items items c.loop-item.item-index c.loop-item-test.false c.loop-item.invariant in
    whole ∙ ap (λ xs. remaining cmp xs c.args.other.now) (c.as_slice-item-items.ensures ∙ c.self.view_is)
