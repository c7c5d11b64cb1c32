use Rattle.std.proofs.Common.{subst}
use Rattle.std.specs.Prelude.{IfSome, map}
use Rattle.slotted_check.proofs.WalkSteps.{ok-map, some-map}
use Rattle.slotted_certificates.specs.Meaning.{IsInstance}
use Rattle.slotted_certificates.proofs.PutLaws.{instance-of, put-made}
use Rattle.slotted_certificates.proofs.puts.put_row.Goals as goal

pub returns-in-Some-3 : goal.returns-in-Some-3
returns-in-Some-3 c =
    let bs = c.args.binders.now in
    let vs = map (λ v. v.items) c.args.values.now in
    let p = c.args.put.now in
    let body = subst (λ o. IfSome o (λ r. IsInstance bs vs c.deref.result.now r.items)) c.in-Some.is c.in_ok-body.ensures in
    let part = subst (λ o. IfSome o (λ r. IsInstance bs vs c.deref-2.result.now r.items)) c.in-Some-2.is c.in_ok-part.ensures in
    let value = subst (λ o. IfSome o (λ r. IsInstance bs vs c.deref-3.result.now r.items)) c.in-Some-3.is c.in_ok-value.ensures in
    ok-map c.substituted.result (λ o h. some-map o (λ r k. put-made bs vs p _ _ _ r.items
    (instance-of bs vs p.body.items c.deref.result.now _ _ c.deref.ensures.value c.deref-in-Some-3.ensures.value body)
    (instance-of bs vs p.part.items c.deref-2.result.now _ _ c.deref-2.ensures.value c.deref-in-Some-3-2.ensures.value part)
    (instance-of bs vs p.value.items c.deref-3.result.now _ _ c.deref-3.ensures.value c.deref-in-Some-3-3.ensures.value value) k) h) c.substituted.ensures
