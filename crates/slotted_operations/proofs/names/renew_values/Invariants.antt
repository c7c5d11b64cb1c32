use Rattle.std.proofs.Common.{◌≡◌, ◌<◌, ◌≤◌, ◌+◌, ◌^◌, ◌++◌, drop}
use Rattle.slotted_slots.specs.Maps.{keys, values}
use Rattle.slotted_slots.specs.Table.{KnowsMore}
use Rattle.slotted_classes.specs.Names.{fresh_slots}
use Rattle.slotted_operations.proofs.names.renew_values.Given as goal

-- fresh slots so far, and then the old values
abbrev pub invariant-loop-i : goal.invariant-loop-i
invariant-loop-i l = record {
  keys : keys l.map ≡ keys l.fn.map;
  values : values l.map ≡ fresh_slots l.fn.table.fresh l.i ++ drop l.i (values l.fn.map);
  table : l.table ≡ record l.fn.table { fresh = l.fn.table.fresh + l.i };
  more : KnowsMore l.fn.table l.table;
  fits : 0 < l.i → l.table.fresh ≤ 2 ^ 30;
}
