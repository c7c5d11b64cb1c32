use Rattle.std.proofs.Common.{◌≢◌, ◌<◌, ℕ}
use Rattle.slotted_nodes.specs.Form.{child_id}
use Rattle.slotted_hashcons.proofs.hashcons.has_child.Given as goal

-- the children so far are of other classes
abbrev pub invariant-loop-k : goal.invariant-loop-k
invariant-loop-k g l = (j : ℕ) → j < l.k → child_id (g.L.LanguageChildren.form l.node) j ≢ l.class
