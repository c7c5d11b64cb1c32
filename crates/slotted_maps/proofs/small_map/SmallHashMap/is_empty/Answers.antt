-- There are no entries where there are no keys.
use Rattle.slotted_maps.proofs.SmallMapLaws.{empty-zip}
use Rattle.slotted_maps.proofs.small_map.SmallHashMap.is_empty.Goals as goal

pub returns : goal.returns
returns g c = empty-zip c.self.inside.keys.items c.self.inside.values.items c.args.self.now c.is_empty.result c.self.invariant.same_length c.self.view_is c.is_empty.ensures
