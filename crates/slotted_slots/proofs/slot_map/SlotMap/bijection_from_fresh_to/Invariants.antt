-- A fresh slot to each element so far.
use Rattle.std.proofs.Common.{◌≡◌, take}
use Rattle.slotted_slots.specs.Maps.{IsInEither, keys, values}
use Rattle.slotted_slots.specs.Table.{KnowsMore, Takes, TakesAtMost}
use Rattle.slotted_slots.proofs.FreshLaws.{AreFilled, holes}
use Rattle.slotted_slots.proofs.slot_map.SlotMap.bijection_from_fresh_to.Given as goal

abbrev pub invariant-loop-slot : goal.invariant-loop-slot
invariant-loop-slot l = record {
  taken : Takes l.fn.table l.table (IsInEither (keys l.pairs.items) l.slot-items);
  count : TakesAtMost l.slot-index l.slot-items l.fn.table l.table;
  keys : AreFilled l.slot-items l.fn.table.fresh l.table.fresh (holes (take l.slot-index l.slot-items)) (keys l.pairs.items);
  values : values l.pairs.items ≡ take l.slot-index l.slot-items;
  names : l.table.names ≡ l.fn.table.names;
  more : KnowsMore l.fn.table l.table;
}
