-- The keys rise, so the search ends at the key or its gap.
use Rattle.slotted_slots.proofs.SetLemmas.{set_searched}
use Rattle.slotted_maps.proofs.small_map.search.Goals as goal

pub returns-clause-absent : goal.returns-clause-absent
returns-clause-absent g c =
    let facts = c.binary_search.ensures in
    (set_searched g.met.K.Ord.total _ c.requires c.args.k.now _ facts.bound facts.position).absent
