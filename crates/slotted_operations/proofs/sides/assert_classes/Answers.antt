use Rattle.std.proofs.Common.{rules}
use Rattle.slotted_proofs.specs.Equations.{to_applied}
use Rattle.slotted_classes.specs.Kept.{text_bytes}
use Rattle.slotted_operations.proofs.Unions.UnionsOfFillings.{enters-filled}
use Rattle.slotted_operations.proofs.Unions.WholeUnions.{large-side}
use Rattle.slotted_operations.proofs.sides.assert_classes.Goals as goal

pub assert_equal-requires-clause-left : goal.assert_equal-requires-clause-left
assert_equal-requires-clause-left g c = c.in_ok-equation.ensures.ok.left.injective

pub assert_equal-requires-clause-right : goal.assert_equal-requires-clause-right
assert_equal-requires-clause-right g c = c.in_ok-equation.ensures.ok.right.injective

pub returns-clause-ok : goal.returns-clause-ok
returns-clause-ok g c =
    let e = c.in_ok-equation.equation in
    let s = c.in_ok-equation.ensures.ok in
    enters-filled c.args.store.now c.assert_equal.new.self (to_applied c.args.l.now) (to_applied c.args.r.now) c.requires.left c.requires.right (to_applied e.l) (to_applied e.r) s.left s.right s.equation (text_bytes c.args.text)
    c.in_ok-p.p c.in_ok-p.ensures.ok

pub returns-in_err-p-clause-full : goal.returns-in_err-p-clause-full
returns-in_err-p-clause-full g c h =
    let e = c.in_ok-equation.equation in
    let s = c.in_ok-equation.ensures.ok in
    large-side c.args.store.now (to_applied e.l) (to_applied e.r) s.left s.right (c.in_err-p.ensures.full (search rules))
