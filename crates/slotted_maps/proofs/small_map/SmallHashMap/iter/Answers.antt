-- The keys rise.
use Rattle.std.proofs.Common.{sym, ap, subst, ◌∙◌}
use Rattle.std.specs.List.Sorted.{IsStrictlySortedBy}
use Rattle.slotted_maps.specs.SmallMaps.{keys_of}
use Rattle.slotted_maps.proofs.SmallMapLaws.{keys_of-zip}
use Rattle.slotted_maps.proofs.small_map.SmallHashMap.iter.Goals as goal

pub returns-clause-ascending : goal.returns-clause-ascending
returns-clause-ascending g c =
    subst (IsStrictlySortedBy g.K.Ord.cmp) (sym (keys_of-zip c.self.inside.keys.items c.self.inside.values.items c.self.invariant.same_length) ∙ ap keys_of c.self.view_is) c.self.invariant.ascending
