use Rattle.std.proofs.Common.{take}
use Rattle.slotted_proofs.specs.Equations.{to_applied}
use Rattle.slotted_reports.specs.Nodes.{AreClassNodes}
use Rattle.slotted_reports.proofs.nodes.node_set.Given as goal

-- the nodes of the sources so far
abbrev pub invariant-loop-i : goal.invariant-loop-i
invariant-loop-i g l = AreClassNodes g.L.LanguageChildren.form l.store l.nodes (to_applied l.a) (take l.i l.sources) l.set.keys
