use Rattle.slotted_check.proofs.WalkSteps.{walks-ended}
use Rattle.slotted_check.proofs.steps.walk.Goals as goal

pub returns : goal.returns
returns c = λ t. let e = c.have_ended.ensures t in c.loop-alloc.invariant (walks-ended _ _ e.0 e.1)
