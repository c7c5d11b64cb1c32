use Rattle.slotted_explain.proofs.Rewriting.{IsUnderWay, rewrites_left}
use Rattle.slotted_explain.proofs.steps.flat_steps.Given as goal

-- the steps so far, and what the stack comes down to, are the chain of the entry
abbrev pub invariant-loop-step : goal.invariant-loop-step
invariant-loop-step l = IsUnderWay l.proofs l.fn.p l.stack.items l.steps.items

-- the rewrites in the trees of the entries on the stack
abbrev pub decreases-loop-step : goal.decreases-loop-step
decreases-loop-step l = rewrites_left l.proofs l.stack.items
