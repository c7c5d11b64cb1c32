use Rattle.std.proofs.Common.{◌≡◌}
use Rattle.std.specs.List.{filter, range_with_len}
use Rattle.slotted_classes.specs.Kept.{entries_of}
use Rattle.slotted_lookup.specs.Reports.{lives}
use Rattle.slotted_operations.specs.Reports.{class_numbers}
use Rattle.slotted_graph.proofs.egraph.reports.live_ids.Given as goal

-- the live ones so far
abbrev pub invariant-loop-class : goal.invariant-loop-class
invariant-loop-class g l = class_numbers l.ids.items ≡ filter (lives (entries_of l.store)) (range_with_len 0 l.class)
