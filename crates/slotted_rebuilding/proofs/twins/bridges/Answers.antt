use Rattle.std.proofs.Common.{◌∙◌, sym, subst, rules, arith}
use Rattle.slotted_classes.proofs.KeptLists.{any_default}
use Rattle.slotted_rebuilding.proofs.EnteredProofs.{only-large}
use Rattle.slotted_rebuilding.specs.Congruence.{IsOfAlike}
use Rattle.slotted_rebuilding.proofs.Bridges.{alike-still, first-none, first-more, first-all}
use Rattle.slotted_rebuilding.proofs.twins.bridges.Goals as goal

pub loop-equation-init : goal.loop-equation-init
loop-equation-init g c = first-none c.args.store.now c.requires.good c.args.equations.now c.new-parts.result.items c.new-parts.ensures.items

pub bridge-requires-clause-good : goal.bridge-requires-clause-good
bridge-requires-clause-good g c = c.loop-equation.invariant.only.stored

pub bridge-requires-clause-left : goal.bridge-requires-clause-left
bridge-requires-clause-left g c =
    let k = c.args.store.now in
    let e = c.equation-item.result in
    (alike-still k c.loop-equation.store c.loop-equation.invariant.only e (subst (IsOfAlike k) (sym c.equation-item.is) (c.requires.alike c.loop-equation.equation-index e c.loop-equation-test.true))).left

pub bridge-requires-clause-right : goal.bridge-requires-clause-right
bridge-requires-clause-right g c =
    let k = c.args.store.now in
    let e = c.equation-item.result in
    (alike-still k c.loop-equation.store c.loop-equation.invariant.only e (subst (IsOfAlike k) (sym c.equation-item.is) (c.requires.alike c.loop-equation.equation-index e c.loop-equation-test.true))).right

pub bridge-requires-clause-alike : goal.bridge-requires-clause-alike
bridge-requires-clause-alike g c =
    let k = c.args.store.now in
    let e = c.equation-item.result in
    (alike-still k c.loop-equation.store c.loop-equation.invariant.only e (subst (IsOfAlike k) (sym c.equation-item.is) (c.requires.alike c.loop-equation.equation-index e c.loop-equation-test.true))).alike

pub returns-in_err-part-clause-full : goal.returns-in_err-part-clause-full
returns-in_err-part-clause-full g c x =
    let e = c.equation-item.result in record {
      equation = e;
      among = (c.loop-equation.equation-index, c.loop-equation-test.true, sym c.equation-item.is);
      large = only-large c.args.store.now c.loop-equation.store c.loop-equation.invariant.only e.l.id.0 e.r.id.0 (c.in_err-part.ensures.full (search rules));
    }

pub loop-equation-preserved : goal.loop-equation-preserved
loop-equation-preserved g c =
    let items = c.args.equations.now in
    let i = c.loop-equation.equation-index in
    let e = c.equation-item.result in
    first-more c.args.store.now c.loop-equation.store c.bridge.new.store items i c.loop-equation.parts.items c.push.new.self.items e c.in_ok-part.part c.loop-equation.invariant
    (λ d. c.equation-item.is ∙ any_default items i e d c.loop-equation-test.true) c.in_ok-push.ensures.items c.in_ok-part.ensures.ok

pub returns-clause-ok : goal.returns-clause-ok
returns-clause-ok g c =
    first-all c.args.store.now c.loop-equation.store c.args.equations.now c.loop-equation.equation-index c.loop-equation.parts.items c.loop-equation.invariant
    (omega (arith, c.loop-equation-test.false, c.loop-equation.auto.equation-index-end))
