use Rattle.std.proofs.Common.{◌≡◌, ◌<◌, ℕ, slice_index_or}
use Rattle.slotted_model.specs.Applied.{Applied}
use Rattle.slotted_model.specs.Find.{find}
use Rattle.slotted_classes.specs.ChildIds.{child_ids}
use Rattle.slotted_classes.specs.Kept.{entries_of}
use Rattle.slotted_lookup.proofs.lookup.is_normal.Given as goal

-- the children so far are what they find
abbrev pub invariant-loop-k : goal.invariant-loop-k
invariant-loop-k g l = (j : ℕ) (d : Applied) → j < l.k → let a : Applied = slice_index_or (child_ids (g.L.LanguageChildren.form l.node)) j d in find (entries_of l.store) a ≡ a
