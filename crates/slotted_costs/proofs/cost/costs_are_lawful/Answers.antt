use Rattle.slotted_costs.proofs.Lawful.{cost-laws}
use Rattle.slotted_costs.proofs.cost.costs_are_lawful.Goals as goal

pub returns : goal.returns
returns g c k =
    let f = g.F.CostFunction in
    let met = g.met.F.CostFunction in
    cost-laws g.L.LanguageChildren.form g.F.Cost.Ord.cmp g.met.F.Cost.Ord.total (f.node_cost k) (met.never_falls k) (met.covers_children k)
