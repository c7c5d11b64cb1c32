use Rattle.std.proofs.Common.{◌≡◌, take}
use Rattle.slotted_operations.specs.Reports.{class_numbers}
use Rattle.slotted_graph.proofs.egraph.analysed.ids_of.Given as goal

-- those so far
abbrev pub invariant-loop-class : goal.invariant-loop-class
invariant-loop-class l = class_numbers l.ids.items ≡ take l.class-index l.classes
