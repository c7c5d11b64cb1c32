-- none of the names so far is the slot
use Rattle.std.proofs.Common.{◌≡◌, false, take}
use Rattle.std.specs.Prelude.{nat_eq}
use Rattle.std.specs.List.{list_any}
use Rattle.slotted_rules.proofs.reading.is_at_some_place.Given as goal

abbrev pub invariant-loop-i : goal.invariant-loop-i
invariant-loop-i g l = list_any (nat_eq l.slot) (take l.i (g.L.LanguageChildren.form l.node).names) ≡ false
