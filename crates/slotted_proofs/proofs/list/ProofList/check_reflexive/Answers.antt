use Rattle.std.proofs.Common.{sym, ◌∙◌, inl, refl}
use Rattle.std.proofs.lemmas.Bool.{false≢true}
use Rattle.std.proofs.lemmas.Result.{IfOk-weaker}
use Rattle.slotted_proofs.specs.Steps.{FitsReflexive, IsReflexiveStep}
use Rattle.slotted_proofs.proofs.Refusals.{misfit_has_slots}
use Rattle.slotted_proofs.proofs.list.ProofList.check_reflexive.Goals as goal

pub returns-then-not-is_over-clause-refused : goal.returns-then-not-is_over-clause-refused
returns-then-not-is_over-clause-refused c = λ _ fits. false≢true (sym c.if-not-is_over.true ∙ c.is_over.ensures.1 fits.0)

pub prove_reflexive-requires-clause-left : goal.prove_reflexive-requires-clause-left
prove_reflexive-requires-clause-left c = (c.is_over.ensures.0 c.if-not-is_over.false).0.0

pub prove_reflexive-requires-clause-right : goal.prove_reflexive-requires-clause-right
prove_reflexive-requires-clause-right c = (c.is_over.ensures.0 c.if-not-is_over.false).1.0

pub returns-clause-fits : goal.returns-clause-fits
returns-clause-fits c =
    let e = c.args.equation.now in
    IfOk-weaker c.prove_reflexive.result (λ _. IsReflexiveStep e) (λ _. FitsReflexive e c.args.left.now c.args.right.now)
    (λ _ step. (c.is_over.ensures.0 c.if-not-is_over.false, step)) c.prove_reflexive.ensures.fits

pub returns-clause-ok : goal.returns-clause-ok
returns-clause-ok c = c.prove_reflexive.ensures.ok

pub returns-clause-refused : goal.returns-clause-refused
returns-clause-refused c = λ bad fits. c.prove_reflexive.ensures.refused bad fits.1

pub returns-clause-full : goal.returns-clause-full
returns-clause-full c = c.prove_reflexive.ensures.full

pub returns-clause-only : goal.returns-clause-only
returns-clause-only c = c.prove_reflexive.ensures.only

pub returns-clause-err : goal.returns-clause-err
returns-clause-err c = c.prove_reflexive.ensures.err

pub returns-then-not-is_over-clause-full : goal.returns-then-not-is_over-clause-full
returns-then-not-is_over-clause-full c = λ e. absurd (misfit_has_slots e)

pub returns-then-not-is_over-clause-only : goal.returns-then-not-is_over-clause-only
returns-then-not-is_over-clause-only c = inl refl

pub returns-then-not-is_over-clause-err : goal.returns-then-not-is_over-clause-err
returns-then-not-is_over-clause-err c = refl
