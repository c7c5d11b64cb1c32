use Rattle.std.proofs.Common.{◌<◌, ℕ, slice_index_or}
use Rattle.slotted_proofs.specs.declared.equation.Equation.{Equation as Sides}
use Rattle.slotted_proofs.specs.Equations.{to_applied}
use Rattle.slotted_proofs.specs.Steps.{IsEntry}
use Rattle.slotted_proofs.proofs.list.ProofList.are_entries.Given as goal

-- the parts so far match
abbrev pub invariant-loop-k : goal.invariant-loop-k
invariant-loop-k l = (j n : ℕ) (d : Sides) → j < l.k → IsEntry l.self (slice_index_or l.parts j n) (to_applied (slice_index_or l.children j d).l) (to_applied (slice_index_or l.children j d).r)
