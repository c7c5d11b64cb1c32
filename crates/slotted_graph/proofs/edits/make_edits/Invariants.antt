use Rattle.std.proofs.Common.{take}
use Rattle.slotted_proofs.specs.Equations.{to_applied}
use Rattle.slotted_graph.specs.Edited.{HasMadeEdits}
use Rattle.slotted_graph.proofs.edits.make_edits.Given as goal

-- the edits so far
abbrev pub invariant-loop-edit : goal.invariant-loop-edit
invariant-loop-edit g l = HasMadeEdits g.N.Analysis.codes g.N.Analysis.meaning l.fn.graph (to_applied l.class) (take l.edit-index l.edits) l.graph
