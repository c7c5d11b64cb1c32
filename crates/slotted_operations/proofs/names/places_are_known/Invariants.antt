use Rattle.std.proofs.Common.{◌<◌, IsTrue, ℕ, slice_index_or}
use Rattle.slotted_slots.specs.Table.{is_known}
use Rattle.slotted_operations.proofs.names.places_are_known.Given as goal

abbrev pub invariant-loop-i : goal.invariant-loop-i
invariant-loop-i g l = (k d : ℕ) → k < l.i → IsTrue (is_known l.table (slice_index_or (g.L.LanguageChildren.form l.node).names k d))
