-- The element goes that was found; with none the set stays.
use Rattle.std.proofs.Common.{sym, ◌<◌, length, subst, rules}
use Rattle.slotted_slots.proofs.SetAlgebraLaws.{without-at, without-none, IsStrictlySortedBy-without}
use Rattle.slotted_slots.proofs.SetLemmas.{has-gap, has-at}
use Rattle.slotted_slots.proofs.small.SmallHashSet.remove.Goals as goal

pub invariant_of-self : goal.invariant_of-self
invariant_of-self g c =
    let gone = without-at g.met.T.Ord.total _ c.in-Ok.ensures.ascending _ _ c.in-Ok.ensures.found in
    rw (c.remove.ensures.items, c.self.view_is, ← gone) (IsStrictlySortedBy-without g.met.T.Ord.total _ _ c.in-Ok.ensures.ascending)

pub returns-in-Ok-clause-set : goal.returns-in-Ok-clause-set
returns-in-Ok-clause-set g c = rw (c.remove.ensures.items, c.self.view_is) (sym (without-at g.met.T.Ord.total _ c.in-Ok.ensures.ascending _ _ c.in-Ok.ensures.found))

pub returns-in-Err-clause-set : goal.returns-in-Err-clause-set
returns-in-Err-clause-set g c = sym (without-none g.met.T.Ord.total _ _ (has-gap g.met.T.Ord.total _ _ _ c.in-Err.ensures.absent))

pub returns-in-Err-clause-removed : goal.returns-in-Err-clause-removed
returns-in-Err-clause-removed g c = sym (has-gap g.met.T.Ord.total _ _ _ c.in-Err.ensures.absent)

pub returns-in-Ok-clause-removed : goal.returns-in-Ok-clause-removed
returns-in-Ok-clause-removed g c = sym (has-at g.met.T.Ord.total _ _ _ c.in-Ok.ensures.found)

pub remove-requires : goal.remove-requires
remove-requires g c = (search rules, subst (λ xs. c.in-Ok.at < length xs) (sym c.self.view_is) c.in-Ok.ensures.found.in_range)
