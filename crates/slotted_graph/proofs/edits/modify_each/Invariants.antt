use Rattle.std.proofs.Common.{take}
use Rattle.slotted_operations.specs.Reports.{class_numbers}
use Rattle.slotted_graph.specs.Rounds.{HasModified}
use Rattle.slotted_graph.proofs.edits.modify_each.Given as goal

-- the classes so far
abbrev pub invariant-loop-id : goal.invariant-loop-id
invariant-loop-id g l = HasModified g.N.Analysis.codes g.N.Analysis.meaning g.N.Analysis.may_ask l.fn.graph (class_numbers (take l.id-index l.ids)) l.graph l.asked
