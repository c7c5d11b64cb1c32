use Rattle.std.proofs.Common.{◌<◌, ℕ, slice_index_or}
use Rattle.slotted_model.specs.Applied.{Applied}
use Rattle.slotted_classes.specs.Finding.{IsFindable}
use Rattle.slotted_operations.specs.Nodes.{child_ids}
use Rattle.slotted_operations.proofs.adding.children_can_be_found.Given as goal

abbrev pub invariant-loop-k : goal.invariant-loop-k
invariant-loop-k g l = (j : ℕ) (d : Applied) → j < l.k → IsFindable l.store (slice_index_or (child_ids (g.L.LanguageChildren.form l.node)) j d)
