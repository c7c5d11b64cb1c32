use Rattle.std.proofs.Common.{map, take}
use Rattle.slotted_match_machine.specs.Index.{OneByOne}
use Rattle.slotted_matching.specs.Indexed.{IsSourceRow}
use Rattle.slotted_matching.specs.Skeletons.{GrowsTo}
use Rattle.slotted_matching.proofs.index.rows_of_sources.Given as goal

abbrev pub invariant-loop-i : goal.invariant-loop-i
invariant-loop-i g l = record {
  rows : OneByOne (IsSourceRow l.store l.nodes l.skeletons) (take l.i (map (λ p. p.1) l.sources)) l.rows.items;
  grows : GrowsTo l.fn.skeletons l.skeletons;
}
