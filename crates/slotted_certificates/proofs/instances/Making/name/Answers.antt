use Rattle.std.specs.Prelude.{map}
use Rattle.slotted_certificates.specs.Grammar.{binds_in}
use Rattle.slotted_certificates.specs.Meaning.{IsValueIn}
use Rattle.slotted_certificates.proofs.Passing.{name-passes}
use Rattle.slotted_certificates.proofs.instances.Making.name.Goals as goal

pub returns-in_ok-push-in-Some-clause-passed : goal.returns-in_ok-push-in-Some-clause-passed
returns-in_ok-push-in-Some-clause-passed c t =
    let m = c.args.self.now in
    name-passes (binds_in m.binders.now) (IsValueIn (map (λ r. r.items) m.values.now)) m.row.items c.push-in-Some.new.self.items m.frames.items c.push.new.self.items m.scopes c.args.operator c.args.slot c.in-Some.number c.args.next
    c.in_ok-push-in-Some.ensures.items c.in-Some.ensures c.requires.in_step c.in_ok-push.ensures.items c.requires.free
