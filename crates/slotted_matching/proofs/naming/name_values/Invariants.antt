use Rattle.std.proofs.Common.{◌≡◌, ◌≤◌, ◌+◌, take, length}
use Rattle.slotted_slots.specs.Table.{KnowsMore}
use Rattle.slotted_matching.specs.Naming.{Covers, NamesMore, numbers_of}
use Rattle.slotted_matching.proofs.naming.name_values.Given as goal

-- the numbers of the occurrences so far have names, and each took one slot at most
abbrev pub invariant-loop-value : goal.invariant-loop-value
invariant-loop-value l = record {
  named : Covers l.names.items (numbers_of (take l.value-index l.values));
  names : NamesMore l.fn.table l.fn.names.items l.table l.names.items;
  kept : l.table.names ≡ l.fn.table.names;
  taken : l.table.fresh ≤ l.fn.table.fresh + length (numbers_of (take l.value-index l.values));
  more : KnowsMore l.fn.table l.table;
}
