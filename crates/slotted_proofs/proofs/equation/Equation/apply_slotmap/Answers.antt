use Rattle.std.proofs.Common.{◌≡◌}
use Rattle.std.proofs.lemmas.Result.{IfOk-weaker}
use Rattle.slotted_slots.specs.Maps.{composed}
use Rattle.slotted_proofs.specs.Equations.{to_applied}
use Rattle.slotted_proofs.specs.Fresh.{IsSentBy}
use Rattle.slotted_proofs.proofs.equation.Equation.apply_slotmap.Goals as goal

pub returns-clause-left : goal.returns-clause-left
returns-clause-left c =
    let e = c.args.self.now in
    let m = c.args.m.now in
    IfOk-weaker c.over.result (IsSentBy m e) (λ s. to_applied s.l ≡ (e.l.id.0, composed e.l.m m)) (λ s sent. sent.left) c.over.ensures.ok

pub returns-clause-right : goal.returns-clause-right
returns-clause-right c =
    let e = c.args.self.now in
    let m = c.args.m.now in
    IfOk-weaker c.over.result (IsSentBy m e) (λ s. to_applied s.r ≡ (e.r.id.0, composed e.r.m m)) (λ s sent. sent.right) c.over.ensures.ok
