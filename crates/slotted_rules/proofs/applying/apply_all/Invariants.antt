-- the rules so far were applied, and those after them can be
use Rattle.std.proofs.Common.{take, drop}
use Rattle.slotted_graph.specs.Analysed.{LowersData}
use Rattle.slotted_rules.specs.Loops.{HasApplied}
use Rattle.slotted_rules.proofs.applying.apply_all.Given as goal

abbrev pub invariant-loop-rule : goal.invariant-loop-rule
invariant-loop-rule g l = record {
  so_far : HasApplied g.R.RewriteT.applies g.R.RewriteT.can_apply (take l.rule-index l.rules) (drop l.rule-index l.rules) l.fn.found.items l.left.items l.fn.graph l.graph;
  lowers : LowersData g.N.Analysis.codes g.N.Analysis.meaning l.fn.graph l.graph;
}
