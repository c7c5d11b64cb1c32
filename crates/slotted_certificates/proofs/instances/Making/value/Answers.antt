use Rattle.std.specs.Prelude.{map}
use Rattle.slotted_check.proofs.WalkSteps.{ok-map}
use Rattle.slotted_certificates.specs.Grammar.{binds_in}
use Rattle.slotted_certificates.proofs.Passing.{term-at, value-passes}
use Rattle.slotted_certificates.proofs.instances.Making.value.Goals as goal

pub returns-else-not-branch-clause-passed : goal.returns-else-not-branch-clause-passed
returns-else-not-branch-clause-passed c =
    let m = c.args.self.now in
    let vs = map (λ r. r.items) m.values.now in
    ok-map c.end_term.result (λ b h t. value-passes (binds_in m.binders.now) vs m.row.items c.push_value.new.row.items c.end_term.new.self.row.items c.in-Some.value.now
    m.frames.items c.end_term.new.self.frames.items m.scopes c.args.number c.args.next c.in-Some.ensures (term-at vs c.args.number c.in-Some.value.now c.requires.terms c.in-Some.ensures)
    (c.in_ok-push_value-in-Some.ensures c.if-not-branch.false) c.requires.in_step (c.is_inside.ensures.yes c.if-not-is_inside.false) (h t)) c.end_term.ensures.ended
