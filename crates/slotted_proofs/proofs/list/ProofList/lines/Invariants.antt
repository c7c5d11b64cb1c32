use Rattle.std.proofs.Common.{reverse}
use Rattle.slotted_proofs.proofs.Lining.{IsLining, turns_left}
use Rattle.slotted_proofs.proofs.list.ProofList.lines.Given as goal

-- the stack leads to the lines of the entry
abbrev pub invariant-loop-top : goal.invariant-loop-top
invariant-loop-top l = IsLining l.self l.fn.p l.lines (reverse l.stack.items)

-- the turns that are left: two for each entry without a line that is not on the stack, and one for each that is
abbrev pub decreases-loop-top : goal.decreases-loop-top
decreases-loop-top l = turns_left l.self l.lines l.stack.items
