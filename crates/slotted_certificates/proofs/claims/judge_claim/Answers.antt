use Rattle.std.proofs.Common.{subst}
use Rattle.std.specs.Prelude.{All, IfSome, map, string_bytes}
use Rattle.slotted_check.specs.Derived.{IsDerived}
use Rattle.slotted_certificates.specs.Following.{ClaimRows, GivenRows}
use Rattle.slotted_certificates.proofs.Claimed.{follows}
use Rattle.slotted_certificates.proofs.claims.judge_claim.Goals as goal

pub returns-in-Some-2 : goal.returns-in-Some-2
returns-in-Some-2 c =
    let ops = map string_bytes c.args.operators.now in
    let bs = c.args.binders.now in
    let lines = map (λ l. string_bytes l.text) c.args.lines.now in
    let es = c.in-Some-2.equations.items in
    let given = subst (λ o. IfSome o (λ v. All (GivenRows ops bs lines) v.items)) c.in-Some-2.is c.in_ok-equations.ensures in
    let claim = subst (λ o. IfSome o (λ e. ClaimRows ops bs c.args.text.now e)) c.in-Some.is c.in_ok-claimed.ensures in
    record {
      checked = λ v. follows ops bs lines c.args.text.now es c.in-Some.claimed (c.in_ok-are_many_different.ensures c.if-not-branch.false) given claim
          (subst (λ given. IsDerived given c.in-Some.claimed) c.deref.ensures.value (c.in_ok-judge_proof-in-Some-2.ensures.derived (c.verdict_of.ensures v)));
    }
