-- each turn goes on from where the ones before it led, and ended with a decision
use Rattle.std.proofs.Common.{◌≡◌, ◌-◌, ◌≤◌, false, length}
use Rattle.slotted_graph.specs.Analysed.{LowersData}
use Rattle.slotted_graph.specs.Extension.{ExtendsTo}
use Rattle.slotted_deciding.specs.Equality.{IsDecidedGraph}
use Rattle.slotted_rules.specs.Applying.{AreModified}
use Rattle.slotted_decided.specs.Turns.{GoesDecided}
use Rattle.slotted_decided.proofs.running.take_turns.Given as goal

abbrev pub invariant-loop-alloc : goal.invariant-loop-alloc
invariant-loop-alloc g l = record {
  well : l.graph.failed ≡ false;
  extends : ExtendsTo l.fn.graph l.graph;
  lowers : LowersData g.N.Analysis.codes g.N.Analysis.meaning l.fn.graph l.graph;
  decided : IsDecidedGraph l.graph;
  within : length l.turns.items ≤ l.limits.turns;
  turns : GoesDecided g.L.LanguageChildren.form g.C.Cond.answers l.rules (AreModified g.N.Analysis.codes g.N.Analysis.meaning g.N.Analysis.may_ask g.N.Analysis.modifies) l.fn.graph l.turns.items l.graph;
}

abbrev pub decreases-loop-alloc : goal.decreases-loop-alloc
decreases-loop-alloc g l = l.limits.turns - length l.turns.items
