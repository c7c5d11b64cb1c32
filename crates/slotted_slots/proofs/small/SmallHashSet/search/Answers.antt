-- The slice is the set's elements, which rise.
use Rattle.slotted_slots.proofs.SetLemmas.{set_searched}
use Rattle.std.proofs.Common.{arith}
use Rattle.std.proofs.lemmas.Grind.{common_steps}
use Rattle.slotted_slots.proofs.small.SmallHashSet.search.Goals as goal

pub returns-clause-absent : goal.returns-clause-absent
returns-clause-absent g c =
    let facts = c.binary_search.ensures in
    rw (← c.as_slice.ensures.elements) (set_searched g.met.T.Ord.total _ (rw c.as_slice.ensures.elements c.as_slice.ensures.ascending) c.args.t.now _ facts.bound facts.position).absent

pub returns-clause-ascending : goal.returns-clause-ascending
returns-clause-ascending g c = grind (arith, common_steps)

pub returns-clause-found : goal.returns-clause-found
returns-clause-found g c = grind (arith, common_steps)
