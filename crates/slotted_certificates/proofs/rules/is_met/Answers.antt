use Rattle.std.specs.Prelude.{map}
use Rattle.slotted_certificates.proofs.FreeNames.{held}
use Rattle.slotted_certificates.proofs.Passing.{term-at}
use Rattle.slotted_certificates.proofs.rules.is_met.Goals as goal

pub returns-in-Some-is_free : goal.returns-in-Some-is_free
returns-in-Some-is_free c t =
    let vs = map (λ r. r.items) c.args.values.now in
    held vs c.args.condition.now c.in-Some.value.now c.in-Some-is_free.found c.in-Some.ensures (term-at vs c.args.condition.now.variable c.in-Some.value.now c.requires c.in-Some.ensures) c.in-Some-is_free.ensures (c.agree.ensures t)
