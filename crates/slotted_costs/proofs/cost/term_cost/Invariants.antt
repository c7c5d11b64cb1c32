-- What the trees of the nodes that were taken cost.
use Rattle.std.proofs.Common.{◌≡◌, ◌++◌, List, ℕ, length, map}
use Rattle.slotted_nodes.specs.Form.{Form}
use Rattle.slotted_patterns.specs.Tree.{PatternTree}
use Rattle.slotted_terms.specs.Flat.{flat, flat_of}
use Rattle.slotted_terms.specs.TermPattern.{IsPatternOf}
use Rattle.slotted_terms.proofs.FlatTrees.{build}
use Rattle.slotted_costs.proofs.FlatCosts.{weigh}
use Rattle.slotted_costs.proofs.cost.term_cost.Given as goal

abbrev pub invariant-loop-node : goal.invariant-loop-node
invariant-loop-node g l =
    let form = g.L.LanguageChildren.form in
    (p : PatternTree) × IsPatternOf p l.term × (s : List (Form × ℕ)) × (flat_of form l.nodes.items ++ s ≡ flat p) × (l.done.items ≡ map (weigh (g.F.CostFunction.node_cost l.costs)) (build s))

abbrev pub decreases-loop-node : goal.decreases-loop-node
decreases-loop-node g l = length l.nodes.items
