use Rattle.std.proofs.Common.{sym}
use Rattle.slotted_small.specs.Small.{small_form}
use Rattle.slotted_costs.specs.Costs.{bare_node}
use Rattle.slotted_graph_lines.specs.LightLambdas.{lambda_weight}
use Rattle.slotted_graph_lines.proofs.light_lambdas.LightLambdasCostFunctionSmall.cost.Goals as goal

pub returns-clause-ok : goal.returns-clause-ok
returns-clause-ok c = c.weighed_sum.ensures.weighed lambda_weight (bare_node (small_form c.args.node.now)) (sym c.weight.ensures)
