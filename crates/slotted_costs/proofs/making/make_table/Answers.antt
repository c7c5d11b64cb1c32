use Rattle.slotted_model.proofs.LeastTerms.Optimal.{finished-fits}
use Rattle.slotted_costs.specs.Entries.{table_of}
use Rattle.slotted_costs.specs.Making.{table_state}
use Rattle.slotted_costs.specs.Costs.{costs_by}
use Rattle.slotted_costs.proofs.Finished.{filed-lawful}
use Rattle.slotted_costs.proofs.making.make_table.Goals as goal

pub returns-clause-ok : goal.returns-clause-ok
returns-clause-ok g c =
    let law = g.met.F.CostFunction in
    record {
      least_first = c.in_ok-step.ensures.ok.making.least_first;
      finished = c.in_ok-step.ensures.end c.if-branch.false;
      lawful = filed-lawful g.L.LanguageChildren.form g.F.Cost.Ord.cmp g.met.F.Cost.Ord.total (g.F.CostFunction.node_cost c.args.costs.now) (law.never_falls c.args.costs.now) (law.covers_children c.args.costs.now)
          c.args.store.now c.args.nodes.now c.in_ok-making.ensures.keys;
    }

pub returns-clause-fits : goal.returns-clause-fits
returns-clause-fits g c rest =
    let t = returns-clause-ok g c in
    finished-fits (table_state c.args.store.now c.args.nodes.now) (costs_by g.F.Cost.Ord.cmp (g.F.CostFunction.node_cost c.args.costs.now))
    (table_of g.L.LanguageChildren.form c.step.new.making.table.entries.items) rest t.lawful t.least_first t.finished

pub returns-clause-ties : goal.returns-clause-ties
returns-clause-ties g c = c.in_ok-step.ensures.ok.making.ties
