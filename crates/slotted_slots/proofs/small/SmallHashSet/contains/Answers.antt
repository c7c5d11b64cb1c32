-- An element is found exactly where one compares equal.
use Rattle.std.proofs.Common.{◌∙◌}
use Rattle.slotted_slots.proofs.SetLemmas.{has_by_search}
use Rattle.slotted_slots.proofs.small.SmallHashSet.contains.Goals as goal

pub returns : goal.returns
returns g c = c.is_ok.ensures.value ∙ has_by_search g.met.T.Ord.total _ c.args.t.now c.search.result c.search.ensures.found c.search.ensures.absent
