use Rattle.std.proofs.Common.{◌≡◌, ◌+◌, ◌∙◌, ap, sum, min}
use Rattle.std.proofs.lemmas.List.{take_all}
use Rattle.slotted_model.specs.Cost.{dearest}
use Rattle.slotted_costs.specs.Size.{largest}
use Rattle.slotted_costs.proofs.Within.{each-within, dearest-within, weighed-is}
use Rattle.slotted_costs.proofs.weights.weighed_sum.Goals as goal

pub returns-clause-weighed : goal.returns-clause-weighed
returns-clause-weighed c w d e =
    let child = c.args.child.now in
    let total : c.loop-cost.total ≡ min (c.args.weight + sum child) largest = c.loop-cost.invariant ∙ ap (λ l. min (c.args.weight + sum l) largest) (take_all c.loop-cost.cost-index child c.loop-cost-test.false) in
    total ∙ weighed-is w d c.args.weight (sum child) (dearest child) e (dearest-within child (each-within child c.type_inv.child))
