use Rattle.std.proofs.Common.{◌≡◌}
use Rattle.std.specs.List.{filter, range_with_len}
use Rattle.slotted_lookup.specs.Reports.{is_source}
use Rattle.slotted_lookup.proofs.reports.class_nodes.Given as goal

-- the sources so far
abbrev pub invariant-loop-source : goal.invariant-loop-source
invariant-loop-source g l = l.sources.items ≡ filter (is_source l.store l.nodes l.class) (range_with_len 0 l.source)
