use Rattle.std.specs.Prelude.{map}
use Rattle.slotted_check.proofs.WalkSteps.{ok-map}
use Rattle.slotted_certificates.specs.Grammar.{binds_in}
use Rattle.slotted_certificates.specs.Meaning.{IsValueIn}
use Rattle.slotted_certificates.proofs.Passing.{leaf-passes}
use Rattle.slotted_certificates.proofs.instances.Making.leaf.Goals as goal

pub returns-clause-passed : goal.returns-clause-passed
returns-clause-passed c =
    let m = c.args.self.now in
    ok-map c.end_term.result (λ b h t. leaf-passes (binds_in m.binders.now) (IsValueIn (map (λ r. r.items) m.values.now)) m.row.items c.push.new.self.items c.push-2.new.self.items c.end_term.new.self.row.items
    m.frames.items c.end_term.new.self.frames.items c.args.operator c.args.next c.in_ok-push.ensures.items c.in_ok-push-2.ensures.items (c.is_inside.ensures.yes c.if-not-is_inside.false) (h t)) c.end_term.ensures.ended
