-- The test on all elements says whether the sets are apart.
use Rattle.std.proofs.Common.{not, refl, sym, ap, ◌∙◌, ◌≡◌, subst, true}
use Rattle.std.specs.List.{list_all}
use Rattle.std.proofs.lemmas.List.{drop_all}
use Rattle.slotted_slots.specs.Sets.{has}
use Rattle.slotted_slots.proofs.SetAlgebraLaws.{AreApart-from_test, has-element}
use Rattle.std.proofs.lemmas.Bool.{false≢true}
use Rattle.slotted_slots.proofs.Loops.{passed_one}
use Rattle.slotted_slots.proofs.small.SmallHashSet.is_disjoint.Goals as goal

pub returns : goal.returns
returns g c =
    let cmp = g.T.Ord.cmp in
    let items = c.as_slice-item-items.result.now in
    let test = list_all (λ x. not (has cmp c.args.other.now x)) in
    let passed = sym c.loop-item.invariant ∙ ap test (drop_all c.loop-item.item-index items c.loop-item-test.false) in
    let same = c.as_slice-item-items.ensures ∙ c.self.view_is in (
      λ _. AreApart-from_test g.met.T.Ord.total c.args.self.now c.args.other.now (sym (ap test same) ∙ passed),
      λ _. refl,
    )

pub returns-then-contains : goal.returns-then-contains
returns-then-contains g c =
    let cmp = g.T.Ord.cmp in
    let items = c.as_slice-item-items.result.now in
    let x = c.item-item.result in
    let there = subst (λ s. has cmp s x ≡ true) (c.as_slice-item-items.ensures ∙ c.self.view_is) (has-element g.met.T.Ord.total items c.loop-item.item-index x c.loop-item-test.true c.item-item.is) in (
      λ y. absurd (false≢true y),
      λ h. absurd (false≢true (sym (h x there) ∙ (sym c.contains.ensures ∙ c.if-contains.true))),
    )

pub loop-item-preserved : goal.loop-item-preserved
loop-item-preserved g c =
    passed_one (λ x. not (has g.T.Ord.cmp c.args.other.now x)) c.as_slice-item-items.result.now c.loop-item.item-index c.item-item.result (ap not (sym c.contains.ensures ∙ c.if-contains.false)) c.loop-item-test.true c.item-item.is
    ∙ c.loop-item.invariant
