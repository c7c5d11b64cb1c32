-- The keys so far, and the values so far, whose holes are filled.
use Rattle.std.proofs.Common.{◌≡◌, ◌++◌, take}
use Rattle.slotted_slots.specs.Combining.{sent_on, TakesForLacked}
use Rattle.slotted_slots.specs.Maps.{IsInEither, keys, values}
use Rattle.slotted_slots.specs.Table.{KnowsMore, Takes}
use Rattle.slotted_slots.proofs.FreshLaws.{AreFilled}
use Rattle.slotted_slots.proofs.slot_map.SlotMap.compose_fresh.Given as goal

abbrev pub invariant-loop-pair : goal.invariant-loop-pair
invariant-loop-pair l = record {
  taken : Takes l.fn.table l.table (IsInEither (values l.pairs.items) (values l.pair-items ++ values l.other));
  count : TakesForLacked l.other (values (take l.pair-index l.pair-items)) (values l.pair-items ++ values l.other) l.fn.table l.table;
  keys : keys l.pairs.items ≡ keys (take l.pair-index l.pair-items);
  values : AreFilled (values l.pair-items ++ values l.other) l.fn.table.fresh l.table.fresh (sent_on (take l.pair-index l.pair-items) l.other) (values l.pairs.items);
  names : l.table.names ≡ l.fn.table.names;
  more : KnowsMore l.fn.table l.table;
}
