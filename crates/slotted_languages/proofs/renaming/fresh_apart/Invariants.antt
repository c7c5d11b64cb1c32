use Rattle.std.proofs.Common.{◌≡◌, ◌-◌}
use Rattle.slotted_slots.specs.Maps.{values}
use Rattle.slotted_slots.specs.Table.{KnowsMore, Takes, TakesAtMost, slot_limit}
use Rattle.slotted_languages.specs.Fresh.{IsInUse, at_hand}
use Rattle.slotted_languages.proofs.renaming.fresh_apart.Given as goal

abbrev pub invariant-loop-slot : goal.invariant-loop-slot
invariant-loop-slot g l = record {
  more : KnowsMore l.fn.table l.table;
  kept : l.table.names ≡ l.fn.table.names;
  count : TakesAtMost 0 (at_hand l.avoid l.names (g.L.LanguageChildren.form l.node)) l.fn.table l.table;
  skipped : Takes l.fn.table l.table (IsInUse l.avoid (values l.names) (g.L.LanguageChildren.form l.node).names);
}

abbrev pub decreases-loop-slot : goal.decreases-loop-slot
decreases-loop-slot g l = slot_limit - l.table.fresh
