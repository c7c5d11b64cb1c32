use Rattle.std.proofs.Common.{◌≡◌, ℕ, ◌-◌, suc, length}
use Rattle.std.specs.List.{slice_index_or}
use Rattle.slotted_certificates.proofs.scopes.make_room.Given as goal

abbrev pub invariant-loop-levels : goal.invariant-loop-levels
invariant-loop-levels l = (y : ℕ) → slice_index_or l.levels.items y 0 ≡ slice_index_or l.fn.levels.items y 0

abbrev pub decreases-loop-levels : goal.decreases-loop-levels
decreases-loop-levels l = suc l.name - length l.levels.items
