use Rattle.std.proofs.lemmas.Result.{IfOk-weaker}
use Rattle.slotted_rebuilding.specs.Congruence.{ProvesTwins}
use Rattle.slotted_rebuilding.specs.Turns.{ProvesCongruence}
use Rattle.slotted_rebuilding.proofs.LargeClasses.{large-either, same-error, twins-large}
use Rattle.slotted_rebuilding.proofs.NormalNodes.{are-twins, twins-proved}
use Rattle.slotted_rebuilding.proofs.narrowing.twin_proof.Goals as goal

pub returns-in_err-equation-clause-full : goal.returns-in_err-equation-clause-full
returns-in_err-equation-clause-full g c h =
    large-either c.args.store.now c.args.left c.args.right c.requires.left c.requires.right (c.in_err-equation.ensures.full (same-error c.from_residual.result c.in_err-equation.field-0.0 _ c.from_residual.ensures.1 h))

pub returns-clause-ok : goal.returns-clause-ok
returns-clause-ok g c =
    let k = c.args.store.now in
    let l = c.congruence.new.store in
    let e = c.in_ok-equation.equation in
    IfOk-weaker c.congruence.result (ProvesTwins k l e) (ProvesCongruence k l c.args.left c.args.right)
    (λ p. twins-proved k l c.args.left c.args.right p e c.in_ok-equation.ensures.ok)
    c.congruence.ensures.ok

pub returns-clause-full : goal.returns-clause-full
returns-clause-full g c h =
    twins-large c.args.store.now c.in_ok-equation.equation (are-twins c.args.store.now c.args.left c.args.right c.in_ok-equation.equation c.in_ok-equation.ensures.ok) (c.congruence.ensures.full h)
