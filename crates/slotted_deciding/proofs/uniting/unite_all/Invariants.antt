use Rattle.std.proofs.Common.{◌≡◌}
use Rattle.slotted_deciding.specs.Equality.{IsDecidedGraph}
use Rattle.slotted_deciding.specs.Steps.{LeadsTo}
use Rattle.slotted_deciding.proofs.uniting.unite_all.Given as goal

abbrev pub invariant-loop-i : goal.invariant-loop-i
invariant-loop-i g l = LeadsTo g.N.Analysis.codes g.N.Analysis.meaning l.fn.graph l.graph × (IsDecidedGraph l.fn.graph → l.graph ≡ l.fn.graph)
