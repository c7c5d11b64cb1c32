use Rattle.std.proofs.Common.{◌≡◌, take}
use Rattle.slotted_slots.specs.Table.{KnowsMore}
use Rattle.slotted_proofs.specs.Equations.{to_applied}
use Rattle.slotted_reports.specs.Nodes.{AreAppliedNodes, TakesForKeys}
use Rattle.slotted_reports.proofs.nodes.filed_nodes.Given as goal

-- the nodes of the sources so far, and only fresh slots are made
abbrev pub invariant-loop-i : goal.invariant-loop-i
invariant-loop-i g l = record {
  nodes : AreAppliedNodes g.L.LanguageChildren.form l.fn.table l.table l.store l.nodes (to_applied l.a) (take l.i l.sources) l.answer.items;
  more : KnowsMore l.fn.table l.table;
  taken : TakesForKeys l.nodes (take l.i l.sources) l.fn.table l.table;
  kept : l.table.names ≡ l.fn.table.names;
}
