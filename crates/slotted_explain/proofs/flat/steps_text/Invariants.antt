-- The graph is as it was but for the fresh slots that the first steps take.
use Rattle.std.proofs.Common.{take}
use Rattle.slotted_graph.specs.Graph.{OnlyTakesSlots}
use Rattle.slotted_explain.specs.Chain.{MakesForSteps}
use Rattle.slotted_explain.proofs.flat.steps_text.Given as goal

abbrev pub invariant-loop-step : goal.invariant-loop-step
invariant-loop-step g l =
    record {
      takes : OnlyTakesSlots l.fn.graph l.graph;
      made : MakesForSteps l.fn.graph l.graph (take l.step-index l.steps);
    }
