use Rattle.std.proofs.Common.{◌<◌, ℕ, slice_index_or}
use Rattle.slotted_proofs.proofs.lines.are_before.Given as goal

-- so far they are
abbrev pub invariant-loop-part : goal.invariant-loop-part
invariant-loop-part l = (k d : ℕ) → k < l.part-index → slice_index_or l.parts k d < l.p
