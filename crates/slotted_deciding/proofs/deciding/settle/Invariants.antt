use Rattle.slotted_operations.specs.Graph.{OnlyTakesSlots}
use Rattle.slotted_deciding.specs.Equality.{IsDecidedGraph}
use Rattle.slotted_deciding.specs.Steps.{LeadsTo}
use Rattle.slotted_deciding.proofs.deciding.settle.Given as goal

abbrev pub invariant-loop : goal.invariant-loop
invariant-loop g l = LeadsTo g.N.Analysis.codes g.N.Analysis.meaning l.fn.graph l.graph × (IsDecidedGraph l.fn.graph → OnlyTakesSlots l.fn.graph l.graph)
