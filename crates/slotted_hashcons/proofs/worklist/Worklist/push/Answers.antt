use Rattle.std.proofs.Common.{ap, subst, sym, arith}
use Rattle.slotted_hashcons.specs.Waiting.{Waiting, HasFlags}
use Rattle.slotted_hashcons.proofs.Flags.{flags-pushed}
use Rattle.slotted_hashcons.proofs.worklist.Worklist.push.Goals as goal

pub invariant_of-self-2 : goal.invariant_of-self-2
invariant_of-self-2 c =
    let count = ap (λ (w : Waiting). w.count) c.self.view_is in
    subst (HasFlags _) (sym c.in_ok-push_back.ensures.items)
    (flags-pushed c.self.inside.waits.items c.self.inside.queue.items c.args.class c.self.invariant (let within = c.requires in omega (arith, count, within))
    (λ k. let t = (c.self.invariant.tells c.args.class).1 k in let r = c.index.ensures in let f = c.if-index.false in cc))
