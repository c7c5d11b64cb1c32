use Rattle.std.proofs.Common.{◌<◌, ◌≤◌, ◌+◌, ℕ}
use Rattle.slotted_nodes.specs.Form.{child_place, width}
use Rattle.slotted_operations.proofs.terms.is_child_place.Given as goal

-- the place is none of a child so far
abbrev pub invariant-loop-k : goal.invariant-loop-k
invariant-loop-k g l =
    let t = (g.L.LanguageChildren.form l.node).tree in
    (j : ℕ) → j < l.k → ¬ ((child_place t j ≤ l.i) × (l.i < child_place t j + width t j))
