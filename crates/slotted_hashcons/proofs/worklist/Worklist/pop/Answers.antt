use Rattle.std.proofs.Common.{subst, arith}
use Rattle.slotted_lists.proofs.Contained.{contains_head}
use Rattle.slotted_hashcons.specs.Waiting.{HasFlags}
use Rattle.slotted_hashcons.proofs.Flags.{flags-popped, waiting-within}
use Rattle.slotted_hashcons.proofs.worklist.Worklist.pop.Goals as goal

pub index_mut-requires : goal.index_mut-requires
index_mut-requires c =
    let within = waiting-within (subst (HasFlags c.self.inside.waits.items) c.in_ok-class.ensures.items c.self.invariant) c.in_ok-class.class (contains_head c.in_ok-class.class c.pop_front.new.self.items) in
    omega (arith, within, c.self.inside.waits.ok)

pub invariant_of-self-2 : goal.invariant_of-self-2
invariant_of-self-2 c = flags-popped c.self.inside.waits.items c.pop_front.new.self.items c.in_ok-class.class (subst (HasFlags c.self.inside.waits.items) c.in_ok-class.ensures.items c.self.invariant)
