use Rattle.std.proofs.Common.{ℕ, ◌≡◌, ◌<◌, get_or}
use Rattle.slotted_matching.proofs.answers.slot_with.Given as goal

-- the slots so far have other raw numbers
abbrev pub invariant-loop-slot : goal.invariant-loop-slot
invariant-loop-slot l = (k : ℕ) → k < l.slot-index → ¬ (get_or l.slots k 0 ≡ l.raw)
