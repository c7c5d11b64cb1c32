use Rattle.std.proofs.Common.{◌≡◌}
use Rattle.std.specs.Prelude.{◌⊎◌}
use Rattle.slotted_model_analyses.specs.DataPart.{HasData}
use Rattle.slotted_hashcons.specs.WellFiled.{state_in}
use Rattle.slotted_data.specs.Meaning.{by_bare_nodes}
use Rattle.slotted_data.specs.Lowering.{TakesTurns, part_of, quiet}
use Rattle.slotted_data.proofs.Rising.{work_left}
use Rattle.slotted_data.proofs.lowering.take_turns.Given as goal

-- turns for data alone led to what is there
abbrev pub invariant-loop-source : goal.invariant-loop-source
invariant-loop-source g l = record {
  takes : TakesTurns (by_bare_nodes (g.N.Analysis.meaning l.analysis)) l.store l.fn.nodes l.nodes l.fn.data l.data l.turns l.fall;
  has : (x : g.row.N-Data.Denot) → HasData (by_bare_nodes (g.N.Analysis.meaning l.analysis)) (state_in l.store (quiet l.fn.nodes)) (part_of x l.data l.nodes.waiting);
  some : (l.turns ≡ 0) ⊎ g.row.N-Data.Denot;
}

abbrev pub decreases-loop-source : goal.decreases-loop-source
decreases-loop-source g l = work_left (by_bare_nodes (g.N.Analysis.meaning l.analysis)) (state_in l.store (quiet l.fn.nodes)) l.data l.nodes.waiting
