use Rattle.std.proofs.Common.{◌<◌, ℕ}
use Rattle.std.specs.Prelude.{All}
use Rattle.slotted_proofs.specs.Lines.{parts_at}
use Rattle.slotted_proofs.proofs.list.ProofList.has_earlier_parts.Given as goal

-- so far it is so
abbrev pub invariant-loop-i : goal.invariant-loop-i
invariant-loop-i l = (p : ℕ) → p < l.i → All (λ q. q < p) (parts_at l.self p)
