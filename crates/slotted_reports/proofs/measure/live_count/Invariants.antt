use Rattle.std.proofs.Common.{◌≡◌, ◌≤◌, length}
use Rattle.std.specs.List.{filter, range_with_len}
use Rattle.slotted_classes.specs.Kept.{entries_of}
use Rattle.slotted_lookup.specs.Reports.{lives}
use Rattle.slotted_reports.proofs.measure.live_count.Given as goal

-- the live ones so far
abbrev pub invariant-loop-class : goal.invariant-loop-class
invariant-loop-class g l = (l.count ≡ length (filter (lives (entries_of l.store)) (range_with_len 0 l.class))) × (l.count ≤ l.class)
