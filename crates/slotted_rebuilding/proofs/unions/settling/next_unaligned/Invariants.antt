use Rattle.std.proofs.Common.{◌<◌, ℕ, slice_index_or}
use Rattle.slotted_model.specs.Rest.{IsAligned}
use Rattle.slotted_classes.specs.Kept.{symmetry_entry}
use Rattle.slotted_classes.specs.declared.store.Symmetry.{Symmetry as SymmetryOfCode}
use Rattle.slotted_classes.specs.StateOf.{state_of, symmetry_of_entry}
use Rattle.slotted_rebuilding.proofs.unions.settling.next_unaligned.Given as goal

-- the symmetries so far are aligned
abbrev pub invariant-loop-symmetry : goal.invariant-loop-symmetry
invariant-loop-symmetry g l =
    (j : ℕ) (d : SymmetryOfCode) → j < l.symmetry-index → IsAligned (state_of l.store) (symmetry_of_entry (symmetry_entry (slice_index_or l.symmetry-items j d)))
