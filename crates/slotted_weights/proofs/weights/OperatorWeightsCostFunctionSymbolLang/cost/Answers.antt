use Rattle.std.proofs.Common.{sym, ap, ◌∙◌}
use Rattle.slotted_symbols.specs.SymbolForms.{symbol_form}
use Rattle.slotted_costs.specs.Costs.{bare_node}
use Rattle.slotted_weights.specs.OperatorWeights.{weight_of, node_weight}
use Rattle.slotted_weights.proofs.weights.OperatorWeightsCostFunctionSymbolLang.cost.Goals as goal

pub returns-clause-ok : goal.returns-clause-ok
returns-clause-ok c =
    c.weighed_sum.ensures.weighed (node_weight c.args.self.now) (bare_node (symbol_form c.args.node.now))
    (sym (c.weight.ensures ∙ ap (weight_of c.args.self.now) c.word.ensures))
