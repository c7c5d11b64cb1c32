use Rattle.std.proofs.Common.{◌∙◌, sym, []}
use Rattle.slotted_theory.specs.Nameless.{stop}
use Rattle.slotted_theory.proofs.Values.{node}
use Rattle.slotted_model.proofs.LeastTerms.Sizes.{size-within}
use Rattle.slotted_costs.specs.Size.{largest}
use Rattle.slotted_costs.proofs.Within.{each-within}
use Rattle.slotted_costs.proofs.ast_size.AstSizeCostFunction.cost.Goals as goal

pub returns-clause-ok : goal.returns-clause-ok
returns-clause-ok g c = c.size_over.ensures ∙ sym (size-within largest (node 0 [] stop) c.args.child.now (each-within c.args.child.now c.type_inv.child))
