use Rattle.std.proofs.Common.{◌≡◌}
use Rattle.std.specs.List.{range_with_len}
use Rattle.slotted_slots.specs.Table.{KnowsMore}
use Rattle.slotted_reports.specs.Nodes.{TakesForClasses}
use Rattle.slotted_reports.proofs.dumping.push_live.Given as goal

-- only fresh slots are made, for the classes so far
abbrev pub invariant-loop-class : goal.invariant-loop-class
invariant-loop-class g l = record {
  more : KnowsMore l.fn.table l.table;
  kept : l.table.names ≡ l.fn.table.names;
  taken : TakesForClasses l.store l.nodes (range_with_len 0 l.class) l.fn.table l.table;
}
