-- the rules so far were searched, one after another
use Rattle.std.proofs.Common.{take}
use Rattle.slotted_graph.specs.Analysed.{LowersData}
use Rattle.slotted_rules.specs.Loops.{HasSearched}
use Rattle.slotted_rules.proofs.applying.search_all.Given as goal

abbrev pub invariant-loop-rule : goal.invariant-loop-rule
invariant-loop-rule g l = record {
  so_far : HasSearched g.R.RewriteT.searches g.R.RewriteT.can_apply (take l.rule-index l.rules) l.fn.graph l.found.items l.graph;
  lowers : LowersData g.N.Analysis.codes g.N.Analysis.meaning l.fn.graph l.graph;
}
