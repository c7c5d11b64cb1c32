-- The e-nodes so far, and what is left.
use Rattle.std.proofs.Common.{◌≡◌, ◌++◌, map, reverse}
use Rattle.slotted_patterns.specs.Tree.{row_of}
use Rattle.slotted_patterns.specs.View.{tree_of}
use Rattle.slotted_signatures.specs.Reading.{nodes_of, nodes_in}
use Rattle.slotted_signatures.proofs.ReadingOrder.{weight}
use Rattle.slotted_signatures.proofs.reading.nodes_in_order.Given as goal

abbrev pub invariant-loop-next : goal.invariant-loop-next
invariant-loop-next g l =
    let form = g.L.LanguageChildren.form in
    map (λ n. form n.now) l.found.items ++ nodes_in (row_of (reverse (map (λ p. tree_of form p.now) l.left.items)))
    ≡ nodes_of (tree_of form l.pattern)

abbrev pub decreases-loop-next : goal.decreases-loop-next
decreases-loop-next g l = weight (map (λ p. tree_of g.L.LanguageChildren.form p.now) l.left.items)
