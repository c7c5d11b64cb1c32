-- The closure gives a pair's key, and the slice is the map's pairs.
use Rattle.std.proofs.Common.{rules}
use Rattle.std.proofs.lemmas.List.Sorted.{answers_always}
use Rattle.slotted_slots.proofs.MapLemmas.{searched}
use Rattle.slotted_slots.proofs.slot_map.SlotMap.search.Goals as goal

pub returns-clause-found : goal.returns-clause-found
returns-clause-found c =
    let facts = c.binary_search_by_key.ensures in
    let by_key = facts.position (λ pair. pair.0) (answers_always _ _ _ (λ f a r g called. search rules)) in
    rw (← c.self.view_is, ← c.as_slice.ensures.value) (searched c.as_slice.result.now (rw c.as_slice.ensures.value c.self.invariant) c.args.k c.binary_search_by_key.result facts.bound by_key).found

pub returns-clause-absent : goal.returns-clause-absent
returns-clause-absent c =
    let facts = c.binary_search_by_key.ensures in
    let by_key = facts.position (λ pair. pair.0) (answers_always _ _ _ (λ f a r g called. search rules)) in
    rw (← c.self.view_is, ← c.as_slice.ensures.value) (searched c.as_slice.result.now (rw c.as_slice.ensures.value c.self.invariant) c.args.k c.binary_search_by_key.result facts.bound by_key).absent
