use Rattle.std.proofs.Common.{refl}
use Rattle.std.specs.Prelude.{map}
use Rattle.slotted_certificates.specs.Grammar.{binds_in}
use Rattle.slotted_certificates.specs.Meaning.{IsValueIn}
use Rattle.slotted_certificates.proofs.Passing.{binder-passes}
use Rattle.slotted_certificates.proofs.instances.Making.bind.Goals as goal

pub returns-clause-passed : goal.returns-clause-passed
returns-clause-passed c t =
    let m = c.args.self.now in
    binder-passes (binds_in m.binders.now) (IsValueIn (map (λ r. r.items) m.values.now)) m.row.items c.push-2.new.self.items _ m.frames.items c.push.new.self.items c.args.operator c.args.slot c.args.next
    c.in_ok-push-2.ensures.items refl c.in_ok-push.ensures.items c.requires.binds
