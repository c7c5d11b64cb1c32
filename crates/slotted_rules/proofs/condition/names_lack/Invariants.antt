-- none of the names so far is the slot
use Rattle.std.proofs.Common.{◌≡◌, false, take}
use Rattle.std.specs.Prelude.{nat_eq}
use Rattle.std.specs.List.{list_any}
use Rattle.slotted_slots.specs.Maps.{values}
use Rattle.slotted_rules.proofs.condition.names_lack.Given as goal

abbrev pub invariant-loop-i : goal.invariant-loop-i
invariant-loop-i l = list_any (nat_eq l.slot) (take l.i (values l.names)) ≡ false
