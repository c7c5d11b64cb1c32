use Rattle.std.proofs.Common.{ap}
use Rattle.std.specs.Prelude.{map}
use Rattle.slotted_check.proofs.WalkSteps.{ok-map}
use Rattle.slotted_certificates.proofs.Passing.{term-ends-behind}
use Rattle.slotted_certificates.proofs.instances.Making.end_term.Goals as goal

pub returns-clause-ended : goal.returns-clause-ended
returns-clause-ended c =
    let m = c.args.self.now in
    let l = c.loop-self.self in
    ok-map c.end_scope.result (λ b h t. term-ends-behind m.binders.now l.binders.now (map (λ r. r.items) m.values.now) (map (λ r. r.items) l.values.now)
    m.row.items l.row.items c.end_scope.new.self.row.items m.frames.items l.frames.items c.end_scope.new.self.frames.items c.loop-self.invariant.binders
    (ap (map (λ r. r.items)) c.loop-self.invariant.values) c.loop-self.invariant.ended (h t)) c.end_scope.ensures.ended
