use Rattle.std.specs.Prelude.{map}
use Rattle.slotted_certificates.specs.Grammar.{binds_in}
use Rattle.slotted_certificates.specs.Meaning.{IsValueIn}
use Rattle.slotted_certificates.proofs.Passing.{also-passes}
use Rattle.slotted_certificates.proofs.instances.Making.bind_also.Goals as goal

pub returns-clause-passed : goal.returns-clause-passed
returns-clause-passed c t =
    let m = c.args.self.now in
    also-passes (binds_in m.binders.now) (IsValueIn (map (λ r. r.items) m.values.now)) m.row.items c.push-3.new.self.items m.frames.items c.push.new.self.items c.push-2.new.self.items
    c.args.before c.args.slot c.args.next c.in_ok-push-3.ensures.items c.in_ok-push.ensures.items c.in_ok-push-2.ensures.items c.requires.scope
