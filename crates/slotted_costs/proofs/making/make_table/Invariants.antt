use Rattle.slotted_costs.specs.Making.{IsMadeSoFar, work_left}
use Rattle.slotted_costs.proofs.making.make_table.Given as goal

abbrev pub decreases-loop-making : goal.decreases-loop-making
decreases-loop-making g l = work_left l.making

abbrev pub invariant-loop-making : goal.invariant-loop-making
invariant-loop-making g l = IsMadeSoFar g.L.LanguageChildren.form g.L.Ord.cmp g.F.Cost.Ord.cmp (g.F.CostFunction.node_cost l.costs) l.store l.nodes l.making
