use Rattle.std.proofs.Common.{◌≡◌, drop, fold}
use Rattle.std.specs.Ordering.{nat_cmp}
use Rattle.slotted_slots.specs.Sets.{insert_key, set_of}
use Rattle.slotted_languages.proofs.places.name_set.Given as goal

abbrev pub invariant-loop-name : goal.invariant-loop-name
invariant-loop-name l = fold (insert_key nat_cmp) l.set (drop l.name-index l.names) ≡ set_of nat_cmp l.names
