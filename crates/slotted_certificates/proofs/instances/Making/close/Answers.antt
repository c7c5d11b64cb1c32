use Rattle.std.proofs.Common.{[], ◌∷◌, ◌++◌, ◌∙◌, ap}
use Rattle.std.specs.Prelude.{map}
use Rattle.slotted_check.proofs.WalkSteps.{ok-map}
use Rattle.slotted_certificates.specs.Grammar.{binds_in}
use Rattle.slotted_certificates.specs.Meaning.{IsValueIn}
use Rattle.slotted_certificates.proofs.Passing.{close-passes}
use Rattle.slotted_certificates.proofs.instances.Making.close.Goals as goal

pub returns-in_ok-push-in-Some-Node-clause-passed : goal.returns-in_ok-push-in-Some-Node-clause-passed
returns-in_ok-push-in-Some-Node-clause-passed c =
    let m = c.args.self.now in
    ok-map c.end_term.result (λ b h t. close-passes (binds_in m.binders.now) (IsValueIn (map (λ r. r.items) m.values.now)) m.row.items c.push.new.self.items c.end_term.new.self.row.items
    m.frames.items c.pop.new.self.items c.end_term.new.self.frames.items c.in-Some-Node.field-0-0 c.args.next c.in_ok-push-in-Some-Node.ensures.items (c.in-Some-Node.ensures.items ∙ ap (λ f. c.pop.new.self.items ++ f ∷ []) c.in-Some-Node.field-0-is) (h t)) c.end_term.ensures.ended
