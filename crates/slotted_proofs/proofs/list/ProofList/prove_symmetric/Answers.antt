use Rattle.std.proofs.Common.{sym, ◌∙◌, inl, inr, refl, length}
use Rattle.std.proofs.lemmas.Bool.{false≢true}
use Rattle.std.proofs.lemmas.Result.{IfOk-weaker, err_from_is_err_and, IfOk-from_err}
use Rattle.slotted_model.specs.ProofList.{symmetric}
use Rattle.slotted_proofs.specs.Steps.{EntersStep, IsSymmetricStep}
use Rattle.slotted_proofs.proofs.Refusals.{fits_short, short_refuses, same_err, misfit_has_slots, no_error, other_way}
use Rattle.slotted_slots.specs.declared.error.Error.TheVariants.{OutOfSlots}
use Rattle.std.specs.Prelude.{Err}
use Rattle.slotted_slots.specs.Table.{slot_limit}
use Rattle.slotted_proofs.proofs.list.ProofList.prove_symmetric.Goals as goal

pub is_entry-requires-clause-left : goal.is_entry-requires-clause-left
is_entry-requires-clause-left c = c.requires.right

pub is_entry-requires-clause-right : goal.is_entry-requires-clause-right
is_entry-requires-clause-right c = c.requires.left

pub returns-then-not-branch-clause-refused : goal.returns-then-not-branch-clause-refused
returns-then-not-branch-clause-refused c = λ _ step. false≢true (sym c.if-not-branch.true ∙ c.in_ok-is_entry.ensures.ok.1 step)

pub returns-then-not-branch-clause-full : goal.returns-then-not-branch-clause-full
returns-then-not-branch-clause-full c = (λ e. absurd (misfit_has_slots e), λ many. absurd (no_error c.in_ok-is_entry.field-0 OutOfSlots (c.in_ok-is_entry.ensures.full.1 (other_way slot_limit (length c.args.equation.now.l.m) (length c.args.equation.now.r.m) many))))

pub enter_equality-requires-clause-left : goal.enter_equality-requires-clause-left
enter_equality-requires-clause-left c = c.requires.left

pub enter_equality-requires-clause-right : goal.enter_equality-requires-clause-right
enter_equality-requires-clause-right c = c.requires.right

pub returns-clause-fits : goal.returns-clause-fits
returns-clause-fits c =
    let list = c.args.self.now in
    let e = c.args.equation.now in
    IfOk-weaker c.enter_equality.result (EntersStep list c.enter_equality.new.self e (symmetric c.args.p)) (λ _. IsSymmetricStep list e c.args.p)
    (λ _ _. c.in_ok-is_entry.ensures.ok.0 c.if-not-branch.false) c.enter_equality.ensures.ok

pub returns-clause-ok : goal.returns-clause-ok
returns-clause-ok c = c.enter_equality.ensures.ok

pub returns-clause-refused : goal.returns-clause-refused
returns-clause-refused c = λ bad. absurd (fits_short c.enter_equality.result c.enter_equality.ensures.only bad)

pub returns-clause-full : goal.returns-clause-full
returns-clause-full c = c.enter_equality.ensures.full

pub returns-clause-only : goal.returns-clause-only
returns-clause-only c = short_refuses c.enter_equality.result c.enter_equality.ensures.only

pub returns-clause-err : goal.returns-clause-err
returns-clause-err c = c.enter_equality.ensures.err

pub returns-in_err-is_entry-clause-full : goal.returns-in_err-is_entry-clause-full
returns-in_err-is_entry-clause-full c =
    let r = err_from_is_err_and c.from_residual.result c.from_residual.ensures.1 in
    rw (r.1, r.2) (
      λ e. other_way slot_limit (length c.args.equation.now.r.m) (length c.args.equation.now.l.m) (c.in_err-is_entry.ensures.full.0 (same_err c.in_err-is_entry.field-0.0 OutOfSlots e)),
      λ many. same_err c.in_err-is_entry.field-0.0 OutOfSlots (c.in_err-is_entry.ensures.full.1 (other_way slot_limit (length c.args.equation.now.l.m) (length c.args.equation.now.r.m) many)),
    )

pub returns-in_err-is_entry-clause-fits : goal.returns-in_err-is_entry-clause-fits
returns-in_err-is_entry-clause-fits c = IfOk-from_err c.from_residual.result _ c.from_residual.ensures.0

pub returns-in_err-is_entry-clause-ok : goal.returns-in_err-is_entry-clause-ok
returns-in_err-is_entry-clause-ok c = IfOk-from_err c.from_residual.result _ c.from_residual.ensures.0

pub returns-in_err-is_entry-clause-refused : goal.returns-in_err-is_entry-clause-refused
returns-in_err-is_entry-clause-refused c =
    let r = err_from_is_err_and c.from_residual.result c.from_residual.ensures.1 in
    rw (r.1, r.2) (λ bad. absurd (fits_short (Err c.in_err-is_entry.field-0.0) c.in_err-is_entry.ensures.err bad))

pub returns-in_err-is_entry-clause-only : goal.returns-in_err-is_entry-clause-only
returns-in_err-is_entry-clause-only c =
    let r = err_from_is_err_and c.from_residual.result c.from_residual.ensures.1 in
    rw (r.1, r.2) (inr c.in_err-is_entry.ensures.err)

pub returns-in_err-is_entry-clause-err : goal.returns-in_err-is_entry-clause-err
returns-in_err-is_entry-clause-err c =
    let r = err_from_is_err_and c.from_residual.result c.from_residual.ensures.1 in
    rw r.1 refl

pub returns-then-not-branch-clause-only : goal.returns-then-not-branch-clause-only
returns-then-not-branch-clause-only c = inl refl

pub returns-then-not-branch-clause-err : goal.returns-then-not-branch-clause-err
returns-then-not-branch-clause-err c = refl
