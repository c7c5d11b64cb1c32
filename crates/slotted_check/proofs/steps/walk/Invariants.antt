use Rattle.std.proofs.Common.{length}
use Rattle.slotted_check.specs.Parts.{SaysLine}
use Rattle.slotted_check.specs.Rows.{Walks}
use Rattle.slotted_check.proofs.steps.walk.Given as goal

abbrev pub invariant-loop-alloc : goal.invariant-loop-alloc
invariant-loop-alloc l = Walks (SaysLine l.fn.lines) l.left l.right → Walks (SaysLine l.fn.lines) l.fn.one l.fn.two

abbrev pub decreases-loop-alloc : goal.decreases-loop-alloc
decreases-loop-alloc l = length l.left
