use Rattle.std.proofs.Common.{ap, subst, sym, arith}
use Rattle.std.specs.Prelude.{false, IsTrue, ◌↔◌, Contains}
use Rattle.std.proofs.lemmas.Bool.{false≢true}
use Rattle.slotted_hashcons.specs.Waiting.{Waiting}
use Rattle.slotted_hashcons.proofs.Flags.{waiting-within}
use Rattle.slotted_hashcons.proofs.Places.{read-any}
use Rattle.slotted_hashcons.proofs.worklist.Worklist.waits.Goals as goal

pub returns : goal.returns
returns c =
    subst (λ q. IsTrue c.index.result.now ↔ Contains q c.args.class) (ap (λ (w : Waiting). w.queue) c.self.view_is)
    (subst (λ b. IsTrue b ↔ Contains c.self.inside.queue.items c.args.class)
    (read-any c.self.inside.waits.items c.args.class c.index.result.now false (omega (arith, c.if-class-len.false, c.len.ensures, c.self.inside.waits.ok)) c.index.ensures)
    (c.self.invariant.tells c.args.class))

pub returns-then-class-len : goal.returns-then-class-len
returns-then-class-len c = (
  λ t. absurd (false≢true t),
  λ k. let within = waiting-within c.self.invariant c.args.class (subst (λ q. Contains q c.args.class) (sym (ap (λ (w : Waiting). w.queue) c.self.view_is)) k) in
      absurd (omega (arith, within, c.if-class-len.true, c.len.ensures, c.self.inside.waits.ok)),
)
