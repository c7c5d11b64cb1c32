use Rattle.std.specs.Prelude.{map}
use Rattle.slotted_certificates.proofs.Passing.{instance-made}
use Rattle.slotted_certificates.proofs.instances.instance.Goals as goal

pub returns : goal.returns
returns c =
    instance-made c.args.binders.now (map (λ r. r.items) c.args.values.now) c.args.tokens.now c.loop-rest.rest.now c.loop-rest.making.row.items c.loop-rest.making.frames.items
    (c.is_done.ensures c.loop-rest-test.false) (c.is_inside.ensures.no c.if-is_inside.false) c.loop-rest.invariant.goes
