use Rattle.std.proofs.Common.{ℕ, List, [], ap, sym, ◌∙◌}
use Rattle.std.specs.Prelude.{slice_index_or}
use Rattle.slotted_symbols.specs.SymbolForms.{symbol_form}
use Rattle.slotted_costs.specs.Costs.{bare_node}
use Rattle.slotted_queries.specs.RowCost.{word_weight}
use Rattle.slotted_queries.proofs.cost.RowCostCostFunctionSymbolLang.cost.Goals as goal

pub returns-clause-ok : goal.returns-clause-ok
returns-clause-ok c =
    c.weighed_sum.ensures.weighed (λ e. word_weight (slice_index_or e.payloads 0 []) c.args.child.now) (bare_node (symbol_form c.args.node.now))
    (sym (c.weight.ensures ∙ ap (λ (w : List ℕ). word_weight w c.args.child.now) c.word.ensures))
