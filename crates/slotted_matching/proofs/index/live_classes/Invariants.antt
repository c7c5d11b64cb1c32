use Rattle.std.proofs.Common.{◌≡◌}
use Rattle.std.specs.List.{filter, range_with_len}
use Rattle.slotted_classes.specs.Kept.{entries_of}
use Rattle.slotted_lookup.specs.Reports.{lives}
use Rattle.slotted_matching.proofs.index.live_classes.Given as goal

abbrev pub invariant-loop-class : goal.invariant-loop-class
invariant-loop-class g l = l.live.items ≡ filter (lives (entries_of l.store)) (range_with_len 0 l.class)
