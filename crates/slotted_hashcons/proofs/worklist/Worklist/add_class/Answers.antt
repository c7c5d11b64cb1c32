use Rattle.std.proofs.Common.{subst, sym}
use Rattle.slotted_hashcons.specs.Waiting.{HasFlags}
use Rattle.slotted_hashcons.proofs.Flags.{flags-added}
use Rattle.slotted_hashcons.proofs.worklist.Worklist.add_class.Goals as goal

pub invariant_of-self-2 : goal.invariant_of-self-2
invariant_of-self-2 c = subst (λ fs. HasFlags fs c.self.inside.queue.items) (sym c.in_ok-push.ensures.items) (flags-added c.self.inside.waits.items c.self.inside.queue.items c.self.invariant)
