-- The element goes into the gap, or is there.
use Rattle.std.proofs.Common.{sym, ap, ◌∙◌, not, ◌≤◌, length, subst, rules}
use Rattle.std.proofs.lemmas.Bool.{false≢true}
use Rattle.slotted_slots.proofs.SetLemmas.{has-at, has-gap, insert_key-at, insert_key-gap, IsStrictlySortedBy-insert_key}
use Rattle.std.specs.List.Sorted.{IsStrictlySortedBy}
use Rattle.slotted_slots.proofs.small.SmallHashSet.insert.Goals as goal

pub returns-in_err-insert-in-Err-clause-succeeds : goal.returns-in_err-insert-in-Err-clause-succeeds
returns-in_err-insert-in-Err-clause-succeeds g c there = absurd (false≢true (sym (has-gap g.met.T.Ord.total _ _ _ c.in-Err.ensures.absent) ∙ there))

pub invariant_of-self-in-Err : goal.invariant_of-self-in-Err
invariant_of-self-in-Err g c =
    let put = insert_key-gap g.met.T.Ord.total _ _ _ c.in-Err.ensures.absent in
    rw (c.in_ok-insert-in-Err.ensures.ok, c.self.view_is, ← put) (IsStrictlySortedBy-insert_key g.met.T.Ord.total _ _ c.in-Err.ensures.ascending)

pub returns-in-Ok-clause-ok : goal.returns-in-Ok-clause-ok
returns-in-Ok-clause-ok g c = sym (insert_key-at g.met.T.Ord.total _ c.in-Ok.ensures.ascending _ _ c.in-Ok.ensures.found)

pub returns-in-Ok-clause-added : goal.returns-in-Ok-clause-added
returns-in-Ok-clause-added g c = ap not (sym (has-at g.met.T.Ord.total _ _ _ c.in-Ok.ensures.found))

pub returns-in_ok-insert-in-Err-clause-ok : goal.returns-in_ok-insert-in-Err-clause-ok
returns-in_ok-insert-in-Err-clause-ok g c = rw (c.in_ok-insert-in-Err.ensures.ok, c.self.view_is) (sym (insert_key-gap g.met.T.Ord.total _ _ _ c.in-Err.ensures.absent))

pub returns-in_ok-insert-in-Err-clause-added : goal.returns-in_ok-insert-in-Err-clause-added
returns-in_ok-insert-in-Err-clause-added g c = ap not (sym (has-gap g.met.T.Ord.total _ _ _ c.in-Err.ensures.absent))

pub insert-requires : goal.insert-requires
insert-requires g c = (search rules, subst (λ xs. c.in-Err.at ≤ length xs) (sym c.self.view_is) c.in-Err.ensures.absent.in_range)

pub invariant_of-self : goal.invariant_of-self
invariant_of-self g c = subst (IsStrictlySortedBy g.T.Ord.cmp) (sym (ap (λ v. v.items) c.in_err-insert-in-Err.ensures.err)) c.self.invariant
