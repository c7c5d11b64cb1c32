use Rattle.std.proofs.Common.{ap, subst}
use Rattle.std.specs.Prelude.{IfSome, map, string_bytes}
use Rattle.slotted_certificates.specs.Puts.{AreValues}
use Rattle.slotted_certificates.proofs.GivenRows.{ok-some-both, rows-instance}
use Rattle.slotted_certificates.proofs.PutLaws.{instance-among}
use Rattle.slotted_certificates.proofs.rules.rule_instance.Goals as goal

pub returns-in-Some : goal.returns-in-Some
returns-in-Some c =
    let r = c.args.rule.now in
    let bs = c.args.binders.now in
    let vs = map (λ v. v.items) c.args.values.now in
    let all = map (λ v. v.items) c.in-Some.all.items in
    let are = subst (λ o. IfSome o (λ all. AreValues bs vs r.puts.items (map (λ v. v.items) all.items))) c.in-Some.is c.in_ok-all.ensures in
    let many = c.in_ok-are_values_of.ensures.many c.if-not-branch-2.false in
    let hold = c.in_ok-are_values_of.ensures.hold c.if-not-branch-2.false in
    let same = ap (map (λ v. v.items)) c.deref-in-Some-2.ensures.value in
    ok-some-both c.sides.result (λ e left right. rows-instance (map string_bytes c.args.operators.now) bs c.args.line.now (map string_bytes r.slots.items) (map string_bytes r.variables.items)
    r.puts.items (string_bytes r.name) r.goes_back r.left.items r.right.items r.conditions.items vs all e (c.in_ok-is_rule_of.ensures c.if-not-branch.false) many are hold
    (instance-among bs _ all _ r.left.items e.left.items same c.deref.ensures.value left) (instance-among bs _ all _ r.right.items e.right.items same c.deref-in-Some.ensures.value right))
    c.sides.ensures.left c.sides.ensures.right
