use Rattle.std.proofs.lemmas.Result.{err_from_is_err_and}
use Rattle.slotted_costs.specs.Costs.{MayRefuse}
use Rattle.slotted_arrays.proofs.Deriving.{one-refused, one-unknown}
use Rattle.slotted_arrays.proofs.optimiser.cost_of.Goals as goal

pub cost_rec-requires : goal.cost_rec-requires
cost_rec-requires g c = c.requires c.in_ok-term.term.now c.in_ok-term.ensures.ok

pub returns-in_err-term-clause-err : goal.returns-in_err-term-clause-err
returns-in_err-term-clause-err g c =
    let p = err_from_is_err_and c.from_residual.result c.from_residual.ensures.1 in
    rw (p.1, p.2) (one-unknown c.args.workspace.now c.args.handle (λ _. MayRefuse g.C.CostFunction.refuses) c.in_err-term.field-0.0 c.in_err-term.ensures.err)

pub returns-in_err-cost-clause-err : goal.returns-in_err-cost-clause-err
returns-in_err-cost-clause-err g c =
    let p = err_from_is_err_and c.from_residual-in_err-cost.result c.from_residual-in_err-cost.ensures.1 in
    rw (p.1, p.2) (one-refused c.args.workspace.now c.args.handle c.in_ok-term.term.now (λ _. MayRefuse g.C.CostFunction.refuses) c.in_err-cost.field-0.0 c.in_ok-term.ensures.ok c.in_err-cost.ensures.err)

pub returns-clause-ok : goal.returns-clause-ok
returns-clause-ok g c = (c.in_ok-term.term.now, c.in_ok-term.ensures.ok, c.in_ok-cost.ensures.ok)
