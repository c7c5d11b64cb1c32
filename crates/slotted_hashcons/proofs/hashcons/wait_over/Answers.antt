-- One source after another.
use Rattle.std.proofs.Common.{◌+◌, sym, subst, arith}
use Rattle.slotted_hashcons.proofs.Together.{WaitsSoFar, waits-all, waits-next, waits-past}
use Rattle.slotted_hashcons.proofs.hashcons.wait_over.Goals.{then-is_over+in_ok-push, else-is_over}
use Rattle.slotted_hashcons.proofs.hashcons.wait_over.Goals as goal

pub loop-k-preserved : goal.loop-k-preserved
loop-k-preserved g c =
    let v = c.args.nodes.now in
    let xs = c.args.sources.now in
    elim c.if-is_over.branch [
      | then-is_over+in_ok-push w ↦ subst (λ u. WaitsSoFar v c.args.class c.args.waiting.now u xs (c.loop-k.k + 1)) (sym w.waiting-is)
          (waits-next v c.args.class c.args.waiting.now xs c.loop-k.waiting w.push.new.self c.loop-k.k c.loop-k.invariant (c.is_over.ensures.0 w.if-is_over.true) w.in_ok-push.ensures.ok)
      | else-is_over w ↦ subst (λ u. WaitsSoFar v c.args.class c.args.waiting.now u xs (c.loop-k.k + 1)) (sym w.waiting-is)
          (waits-past v c.args.class c.args.waiting.now xs c.loop-k.waiting c.loop-k.k c.loop-k.invariant (λ h. let t = c.is_over.ensures.1 h in let f = w.if-is_over.false in cc))
    ]

pub returns-clause-ok : goal.returns-clause-ok
returns-clause-ok g c = waits-all c.args.nodes.now c.args.class c.args.waiting.now c.args.sources.now c.loop-k.waiting c.loop-k.k c.loop-k.invariant (omega (arith, c.loop-k-test.false))
