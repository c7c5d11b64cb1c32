use Rattle.std.proofs.Common.{◌≡◌}
use Rattle.std.specs.List.{filter, range_with_len, sum_by}
use Rattle.slotted_nodes.specs.Form.{counted}
use Rattle.slotted_classes.specs.Kept.{entries_of}
use Rattle.slotted_lookup.specs.Reports.{lives}
use Rattle.slotted_reports.specs.Measure.{entry_slots}
use Rattle.slotted_reports.proofs.measure.slot_count.Given as goal

-- the slots of the live ones so far
abbrev pub invariant-loop-class : goal.invariant-loop-class
invariant-loop-class g l = l.count ≡ counted (sum_by (entry_slots l.store) (filter (lives (entries_of l.store)) (range_with_len 0 l.class)))
