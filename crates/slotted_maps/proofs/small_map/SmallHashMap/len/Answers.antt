-- There are as many entries as keys, which rise.
use Rattle.std.proofs.Common.{length, sym, ap, subst, ◌∙◌}
use Rattle.std.specs.List.Sorted.{IsStrictlySortedBy}
use Rattle.slotted_maps.specs.SmallMaps.{keys_of}
use Rattle.slotted_maps.proofs.SmallMapLaws.{keys_of-zip, length-zip}
use Rattle.slotted_maps.proofs.small_map.SmallHashMap.len.Goals as goal

pub returns-clause-len : goal.returns-clause-len
returns-clause-len g c = c.len.ensures.value ∙ (sym (length-zip c.self.inside.keys.items c.self.inside.values.items c.self.invariant.same_length) ∙ ap length c.self.view_is)

pub returns-clause-ascending : goal.returns-clause-ascending
returns-clause-ascending g c =
    subst (IsStrictlySortedBy g.K.Ord.cmp) (sym (keys_of-zip c.self.inside.keys.items c.self.inside.values.items c.self.invariant.same_length) ∙ ap keys_of c.self.view_is) c.self.invariant.ascending
