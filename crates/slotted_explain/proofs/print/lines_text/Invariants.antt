-- The first lines are printed, over the graph as it was but for fresh slots.
use Rattle.std.proofs.Common.{string_bytes, take}
use Rattle.slotted_graph.specs.Graph.{OnlyTakesSlots}
use Rattle.slotted_explain.specs.Printed.{ArePrinted, MakesForLines}
use Rattle.slotted_explain.proofs.print.lines_text.Given as goal

abbrev pub invariant-loop-i : goal.invariant-loop-i
invariant-loop-i g l =
    record {
      printed : ArePrinted g.L.Printable.written l.fn.graph l.graph l.lines l.i (string_bytes l.text);
      takes : OnlyTakesSlots l.fn.graph l.graph;
      made : MakesForLines l.fn.graph l.graph (take l.i l.lines);
    }
