use Rattle.std.proofs.Common.{subst}
use Rattle.std.specs.Prelude.{IfSome}
use Rattle.slotted_certificates.specs.Turning.{StepsTo}
use Rattle.slotted_certificates.proofs.Turnings.{steps-then, turned-all}
use Rattle.slotted_certificates.proofs.substitution.turn_all.Goals as goal

pub returns-then-is_done : goal.returns-then-is_done
returns-then-is_done c _ =
    turned-all c.args.part.now c.args.value.now c.args.pieces.now c.loop.rest.now c.args.out.now.items c.loop.out.items c.loop.depth c.loop.invariant (c.is_done.ensures c.if-is_done.true)

pub loop-preserved : goal.loop-preserved
loop-preserved c =
    steps-then c.args.part.now c.args.value.now c.args.pieces.now c.loop.rest.now c.in-Some.behind.now c.args.out.now.items c.loop.out.items c.turn.new.out.items c.loop.depth c.in-Some.next c.loop.invariant
    (subst (λ o. IfSome o (λ s. StepsTo c.args.part.now c.args.value.now c.loop.depth c.loop.rest.now s.0 s.1.now c.loop.out.items c.turn.new.out.items)) c.in-Some.is c.in_ok-next.ensures.turns)

pub returns : goal.returns
returns c t =
    turned-all c.args.part.now c.args.value.now c.args.pieces.now c.loop.rest.now c.args.out.now.items c.loop.out.items c.loop.depth c.loop.invariant (c.is_done-2.ensures t)
