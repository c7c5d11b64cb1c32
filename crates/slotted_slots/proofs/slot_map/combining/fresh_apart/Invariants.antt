-- The counter went on, and no name came. What was skipped was in use.
use Rattle.std.proofs.Common.{◌≡◌, ◌≤◌, ◌-◌}
use Rattle.std.specs.Prelude.{true, ◌++◌}
use Rattle.slotted_slots.specs.Maps.{is_among, values}
use Rattle.slotted_slots.specs.Table.{KnowsMore, Takes, TakesAtMost, slot_limit}
use Rattle.slotted_slots.proofs.slot_map.combining.fresh_apart.Given as goal

abbrev pub invariant-loop-slot : goal.invariant-loop-slot
invariant-loop-slot l = record {
  on : l.fn.table.fresh ≤ l.table.fresh;
  names : l.table.names ≡ l.fn.table.names;
  more : KnowsMore l.fn.table l.table;
  count : TakesAtMost 0 (values l.first ++ values l.second) l.fn.table l.table;
  skipped : Takes l.fn.table l.table (λ z. is_among z (values l.first ++ values l.second) ≡ true);
}

abbrev pub decreases-loop-slot : goal.decreases-loop-slot
decreases-loop-slot l = slot_limit - l.table.fresh
