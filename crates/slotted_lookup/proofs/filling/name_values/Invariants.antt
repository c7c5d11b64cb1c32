use Rattle.std.proofs.Common.{◌≡◌, ◌+◌, ◌++◌, take, drop}
use Rattle.slotted_slots.specs.Maps.{keys, values}
use Rattle.slotted_slots.specs.Table.{KnowsMore}
use Rattle.slotted_lookup.specs.Filling.{lacked, named}
use Rattle.slotted_lookup.proofs.filling.name_values.Given as goal

-- the names so far and those of the values that are left are the names of all
abbrev pub invariant-loop-i : goal.invariant-loop-i
invariant-loop-i l = record {
  keys : keys l.slots ≡ keys l.fn.slots;
  names : take l.i (values l.slots) ++ named l.table.fresh l.names (drop l.i (values l.slots)) ≡ named l.fn.table.fresh l.names (values l.fn.slots);
  left : l.table.fresh + lacked l.names (drop l.i (values l.slots)) ≡ l.fn.table.fresh + lacked l.names (values l.fn.slots);
  kept : l.table.names ≡ l.fn.table.names;
  more : KnowsMore l.fn.table l.table;
}
