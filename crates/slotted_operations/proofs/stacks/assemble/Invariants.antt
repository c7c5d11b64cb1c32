-- What was built of the nodes that were taken.
use Rattle.std.proofs.Common.{◌≡◌, ◌++◌, List, ℕ, [], length}
use Rattle.slotted_nodes.specs.Form.{Form}
use Rattle.slotted_terms.specs.Flat.{flat_of}
use Rattle.slotted_operations.specs.Preorder.{built}
use Rattle.slotted_operations.proofs.stacks.assemble.Given as goal

abbrev pub invariant-loop-node : goal.invariant-loop-node
invariant-loop-node g l =
    let form = g.L.LanguageChildren.form in
    (s : List (Form × ℕ)) × (flat_of form l.nodes.items ++ s ≡ flat_of form l.fn.nodes.items) × (l.done.items ≡ built s [])

abbrev pub decreases-loop-node : goal.decreases-loop-node
decreases-loop-node g l = length l.nodes.items
