use Rattle.std.proofs.Common.{refl}
use Rattle.std.proofs.lemmas.Result.{IfOk-weaker}
use Rattle.slotted_proofs.specs.Equations.{to_applied}
use Rattle.slotted_classes.specs.Kept.{EntersAsserted, text_bytes}
use Rattle.slotted_operations.specs.Sides.{EntersFilled}
use Rattle.slotted_operations.proofs.Unions.UnionsOfFillings.{enters-filled}
use Rattle.slotted_operations.proofs.Unions.WholeUnions.{large-side}
use Rattle.slotted_operations.proofs.sides.assert_sides.Goals as goal

pub assert_equal-requires-clause-left : goal.assert_equal-requires-clause-left
assert_equal-requires-clause-left g c = c.requires.left.injective

pub assert_equal-requires-clause-right : goal.assert_equal-requires-clause-right
assert_equal-requires-clause-right g c = c.requires.right.injective

pub returns-then-have_all_names-clause-ok : goal.returns-then-have_all_names-clause-ok
returns-then-have_all_names-clause-ok g c =
    let k = c.args.store.now in
    let m = c.assert_equal.new.self in
    let a = to_applied c.args.l.now in
    let b = to_applied c.args.r.now in
    let text = text_bytes c.args.text in
    IfOk-weaker c.assert_equal.result (EntersAsserted k m c.args.l.now c.args.r.now text) (EntersFilled k m a b text)
    (enters-filled k m a b c.requires.left c.requires.right a b (c.have_all_names.ensures.left c.if-have_all_names.true) (c.have_all_names.ensures.right c.if-have_all_names.true) refl text)
    c.assert_equal.ensures.ok

pub returns-then-have_all_names-clause-full : goal.returns-then-have_all_names-clause-full
returns-then-have_all_names-clause-full g c e =
    large-side c.args.store.now (to_applied c.args.l.now) (to_applied c.args.r.now) (c.have_all_names.ensures.left c.if-have_all_names.true) (c.have_all_names.ensures.right c.if-have_all_names.true)
    (c.assert_equal.ensures.full e)
