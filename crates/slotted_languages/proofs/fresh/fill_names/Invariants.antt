-- The names so far have a value.
use Rattle.std.proofs.Common.{◌≡◌, ◌≤◌, length, take}
use Rattle.slotted_slots.specs.Table.{KnowsMore, Takes, TakesAtMost}
use Rattle.slotted_slots.specs.Maps.{values}
use Rattle.slotted_languages.specs.Fresh.{IsFilled, IsInUse, ValuesAreIn, at_hand}
use Rattle.slotted_languages.proofs.fresh.fill_names.Given as goal

abbrev pub invariant-loop-name : goal.invariant-loop-name
invariant-loop-name g l = record {
  filled : IsFilled l.fn.table l.table (g.L.LanguageChildren.form l.node).names (take l.name-index l.name-items) l.fn.names l.names;
  more : KnowsMore l.fn.table l.table;
  count : TakesAtMost l.name-index (at_hand l.wanted l.fn.names (g.L.LanguageChildren.form l.node)) l.fn.table l.table;
  valued : ValuesAreIn l.table (values l.fn.names) l.names;
  behind : l.name-index ≤ length l.name-items;
  kept : l.table.names ≡ l.fn.table.names;
  taken : Takes l.fn.table l.table (IsInUse l.wanted (values l.names) (g.L.LanguageChildren.form l.node).names);
}
