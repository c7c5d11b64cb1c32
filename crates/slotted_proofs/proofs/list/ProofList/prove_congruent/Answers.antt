use Rattle.std.proofs.Common.{sym, ◌∙◌, inl, subst, inr, refl}
use Rattle.slotted_proofs.proofs.Refusals.{fits_short, short_refuses, same_err, misfit_has_slots}
use Rattle.std.proofs.lemmas.Bool.{false≢true}
use Rattle.std.proofs.lemmas.Result.{IfOk-weaker, err_from_is_err_and, IfOk-from_err}
use Rattle.slotted_model.specs.ProofList.{congruent}
use Rattle.slotted_proofs.specs.Steps.{AreEntries, EntersStep}
use Rattle.std.specs.Prelude.{Err}
use Rattle.slotted_slots.specs.declared.error.Error.TheVariants.{OutOfSlots}
use Rattle.slotted_proofs.proofs.list.ProofList.prove_congruent.Goals as goal

pub are_entries-requires : goal.are_entries-requires
are_entries-requires c = c.requires.children

pub enter_equality-requires-clause-left : goal.enter_equality-requires-clause-left
enter_equality-requires-clause-left c = c.requires.left

pub enter_equality-requires-clause-right : goal.enter_equality-requires-clause-right
enter_equality-requires-clause-right c = c.requires.right

pub returns-clause-ok : goal.returns-clause-ok
returns-clause-ok c = c.enter_equality.ensures.ok

pub returns-clause-full : goal.returns-clause-full
returns-clause-full c = λ e. inl (c.enter_equality.ensures.full.0 e)

pub returns-clause-refused : goal.returns-clause-refused
returns-clause-refused c = λ bad. absurd (fits_short c.enter_equality.result c.enter_equality.ensures.only bad)

pub returns-clause-only : goal.returns-clause-only
returns-clause-only c = short_refuses c.enter_equality.result c.enter_equality.ensures.only

pub returns-clause-err : goal.returns-clause-err
returns-clause-err c = c.enter_equality.ensures.err

pub returns-then-not-branch-clause-refused : goal.returns-then-not-branch-clause-refused
returns-then-not-branch-clause-refused c = λ _ entries.
    false≢true (sym c.if-not-branch.true ∙ c.in_ok-are_entries.ensures.ok.1 (subst (λ ps. AreEntries c.args.self.now ps c.args.children.now) (sym c.deref.ensures.value) entries))

pub returns-clause-fits : goal.returns-clause-fits
returns-clause-fits c =
    let list = c.args.self.now in
    let ps = c.args.parts.items in
    let children = c.args.children.now in
    IfOk-weaker c.enter_equality.result (EntersStep list c.enter_equality.new.self c.args.equation.now (congruent ps)) (λ _. AreEntries list ps children)
    (λ _ _. subst (λ x. AreEntries list x children) c.deref.ensures.value (c.in_ok-are_entries.ensures.ok.0 c.if-not-branch.false)) c.enter_equality.ensures.ok

pub returns-in_err-are_entries-clause-fits : goal.returns-in_err-are_entries-clause-fits
returns-in_err-are_entries-clause-fits c = IfOk-from_err c.from_residual.result _ c.from_residual.ensures.0

pub returns-in_err-are_entries-clause-ok : goal.returns-in_err-are_entries-clause-ok
returns-in_err-are_entries-clause-ok c = IfOk-from_err c.from_residual.result _ c.from_residual.ensures.0

pub returns-in_err-are_entries-clause-refused : goal.returns-in_err-are_entries-clause-refused
returns-in_err-are_entries-clause-refused c =
    let r = err_from_is_err_and c.from_residual.result c.from_residual.ensures.1 in
    rw (r.1, r.2) (λ bad. absurd (fits_short (Err c.in_err-are_entries.field-0.0) c.in_err-are_entries.ensures.err bad))

pub returns-in_err-are_entries-clause-only : goal.returns-in_err-are_entries-clause-only
returns-in_err-are_entries-clause-only c =
    let r = err_from_is_err_and c.from_residual.result c.from_residual.ensures.1 in
    rw (r.1, r.2) (inr c.in_err-are_entries.ensures.err)

pub returns-in_err-are_entries-clause-err : goal.returns-in_err-are_entries-clause-err
returns-in_err-are_entries-clause-err c =
    let r = err_from_is_err_and c.from_residual.result c.from_residual.ensures.1 in
    rw r.1 refl

pub returns-in_err-are_entries-clause-full : goal.returns-in_err-are_entries-clause-full
returns-in_err-are_entries-clause-full c =
    let r = err_from_is_err_and c.from_residual.result c.from_residual.ensures.1 in
    rw (r.1, r.2) (λ e. inr (c.in_err-are_entries.ensures.full (same_err c.in_err-are_entries.field-0.0 OutOfSlots e)))

pub returns-then-not-branch-clause-full : goal.returns-then-not-branch-clause-full
returns-then-not-branch-clause-full c = λ e. absurd (misfit_has_slots e)

pub returns-then-not-branch-clause-only : goal.returns-then-not-branch-clause-only
returns-then-not-branch-clause-only c = inl refl

pub returns-then-not-branch-clause-err : goal.returns-then-not-branch-clause-err
returns-then-not-branch-clause-err c = refl
