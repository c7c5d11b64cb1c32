use Rattle.std.proofs.Common.{◌<◌, ℕ, slice_index_or}
use Rattle.slotted_model.specs.Applied.{Applied}
use Rattle.slotted_model.specs.Classes.{IsFull}
use Rattle.slotted_classes.specs.Kept.{nodes_of}
use Rattle.slotted_operations.specs.Nodes.{child_ids}
use Rattle.slotted_operations.proofs.adding.has_full_children.Given as goal

abbrev pub invariant-loop-k : goal.invariant-loop-k
invariant-loop-k g l = (j : ℕ) (d : Applied) → j < l.k → IsFull (nodes_of l.store) (slice_index_or (child_ids (g.L.LanguageChildren.form l.node)) j d)
