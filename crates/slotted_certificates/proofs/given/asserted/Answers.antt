use Rattle.std.proofs.Common.{[], ap, subst}
use Rattle.std.specs.Prelude.{map, option_map, string_bytes}
use Rattle.slotted_certificates.specs.Given.{AreDifferent}
use Rattle.slotted_certificates.specs.Meaning.{IsInstance}
use Rattle.slotted_certificates.proofs.GivenRows.{ok-some-both, rows-asserted}
use Rattle.slotted_certificates.proofs.given.asserted.Goals as goal

pub returns : goal.returns
returns c =
    let a = c.args.assertion.now in
    let bs = c.args.binders.now in
    ok-some-both c.sides.result (λ e l r. rows-asserted (map string_bytes c.args.operators.now) bs c.args.line.now (option_map string_bytes a.name) (map string_bytes a.slots.items)
    a.left.items a.right.items e
    (subst AreDifferent (ap (map string_bytes) c.deref.ensures.value) (c.are_different.ensures c.if-not-are_different.false)) (c.in_ok-is_text_of.ensures c.if-not-branch.false)
    (subst (λ ts. IsInstance bs [] ts e.left.items) c.deref-2.ensures.value l) (subst (λ ts. IsInstance bs [] ts e.right.items) c.deref-3.ensures.value r)) c.sides.ensures.left c.sides.ensures.right
