use Rattle.std.proofs.Common.{◌≡◌, ◌≤◌, ◌+◌, take}
use Rattle.slotted_slots.specs.Table.{KnowsMore}
use Rattle.slotted_matching.specs.Naming.{Covers, NamesMore}
use Rattle.slotted_matching.proofs.naming.name_numbers.Given as goal

-- the numbers so far have names, and each took one slot at most
abbrev pub invariant-loop-number : goal.invariant-loop-number
invariant-loop-number l = record {
  named : Covers l.names.items (take l.number-index l.numbers);
  names : NamesMore l.fn.table l.fn.names.items l.table l.names.items;
  kept : l.table.names ≡ l.fn.table.names;
  taken : l.table.fresh ≤ l.fn.table.fresh + l.number-index;
  more : KnowsMore l.fn.table l.table;
}
