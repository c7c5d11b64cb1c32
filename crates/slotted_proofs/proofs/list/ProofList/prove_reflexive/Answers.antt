use Rattle.std.proofs.Common.{◌∙◌, IfOk, subst, inl, inr, refl}
use Rattle.std.proofs.lemmas.Result.{IfOk-weaker, err_from_is_err_and, IfOk-from_err}
use Rattle.slotted_model.specs.Applied.{keys}
use Rattle.slotted_model.specs.ProofList.{reflexive}
use Rattle.slotted_proofs.specs.Equations.{to_applied, statement_of, reflexive_statement}
use Rattle.slotted_proofs.specs.Entries.{Enters}
use Rattle.slotted_proofs.specs.Steps.{IsReflexiveStep, by_step}
use Rattle.slotted_proofs.proofs.Written.{stated, own_sides}
use Rattle.slotted_proofs.proofs.Stepping.{ids_agree, ids_differ, equal_sides}
use Rattle.slotted_proofs.proofs.Refusals.{fits_short, memory_short, short_refuses, slots_left, same_err, misfit_has_slots}
use Rattle.std.specs.Prelude.{Err}
use Rattle.slotted_slots.specs.declared.error.Error.TheVariants.{OutOfSlots}
use Rattle.slotted_proofs.proofs.list.ProofList.prove_reflexive.Goals as goal

pub returns-then-ne-clause-refused : goal.returns-then-ne-clause-refused
returns-then-ne-clause-refused c = λ _ h. ids_differ c.args.equation.now.l c.args.equation.now.r c.if-ne.ensures h

pub returns-clause-fits : goal.returns-clause-fits
returns-clause-fits c =
    let e = c.args.equation.now in
    IfOk-weaker c.enter.result (Enters c.args.self.now c.enter.new.self (by_step (statement_of c.in_ok-asked.asked) reflexive)) (λ _. IsReflexiveStep e) (λ _ _. ids_agree e.l e.r c.if-ne.ensures) c.enter.ensures.ok

pub enter-requires : goal.enter-requires
enter-requires c =
    let a = to_applied c.args.equation.now.l in
    let e = c.in_ok-asked.asked in
    own_sides (reflexive_statement a.0 (keys a.1)) (to_applied e.l) (to_applied e.r) c.in_ok-asked.ensures.ok

pub returns-clause-ok : goal.returns-clause-ok
returns-clause-ok c =
    let a = to_applied c.args.equation.now.l in
    let b = to_applied c.args.equation.now.r in
    let e = c.in_ok-asked.asked in
    let w = c.in_ok-asked.ensures.ok in
    let is = stated (reflexive_statement a.0 (keys a.1)) (to_applied e.l) (to_applied e.r) w ∙ equal_sides a b (to_applied e.l) (to_applied e.r) c.requires.left (ids_agree c.args.equation.now.l c.args.equation.now.r c.if-ne.ensures) w in
    subst (λ s. IfOk c.enter.result (Enters c.args.self.now c.enter.new.self (by_step s reflexive))) is c.enter.ensures.ok

pub numbered_itself-requires : goal.numbered_itself-requires
numbered_itself-requires c = c.requires.left

pub returns-clause-refused : goal.returns-clause-refused
returns-clause-refused c = λ bad. absurd (fits_short c.enter.result (memory_short c.enter.result c.enter.ensures.memory) bad)

pub returns-clause-full : goal.returns-clause-full
returns-clause-full c = λ e. absurd (slots_left c.enter.result c.enter.ensures.memory e)

pub returns-clause-only : goal.returns-clause-only
returns-clause-only c = short_refuses c.enter.result (memory_short c.enter.result c.enter.ensures.memory)

pub returns-clause-err : goal.returns-clause-err
returns-clause-err c = c.enter.ensures.err

pub returns-in_err-asked-clause-fits : goal.returns-in_err-asked-clause-fits
returns-in_err-asked-clause-fits c = IfOk-from_err c.from_residual.result _ c.from_residual.ensures.0

pub returns-in_err-asked-clause-ok : goal.returns-in_err-asked-clause-ok
returns-in_err-asked-clause-ok c = IfOk-from_err c.from_residual.result _ c.from_residual.ensures.0

pub returns-in_err-asked-clause-refused : goal.returns-in_err-asked-clause-refused
returns-in_err-asked-clause-refused c =
    let r = err_from_is_err_and c.from_residual.result c.from_residual.ensures.1 in
    rw (r.1, r.2) (λ bad. absurd (fits_short (Err c.in_err-asked.field-0.0) c.in_err-asked.ensures.err bad))

pub returns-in_err-asked-clause-only : goal.returns-in_err-asked-clause-only
returns-in_err-asked-clause-only c =
    let r = err_from_is_err_and c.from_residual.result c.from_residual.ensures.1 in
    rw (r.1, r.2) (inr c.in_err-asked.ensures.err)

pub returns-in_err-asked-clause-err : goal.returns-in_err-asked-clause-err
returns-in_err-asked-clause-err c =
    let r = err_from_is_err_and c.from_residual.result c.from_residual.ensures.1 in
    rw r.1 refl

pub returns-in_err-asked-clause-full : goal.returns-in_err-asked-clause-full
returns-in_err-asked-clause-full c =
    let r = err_from_is_err_and c.from_residual.result c.from_residual.ensures.1 in
    rw (r.1, r.2) (λ e. c.in_err-asked.ensures.full.0 (same_err c.in_err-asked.field-0.0 OutOfSlots e))

pub returns-then-ne-clause-full : goal.returns-then-ne-clause-full
returns-then-ne-clause-full c = λ e. absurd (misfit_has_slots e)

pub returns-then-ne-clause-only : goal.returns-then-ne-clause-only
returns-then-ne-clause-only c = inl refl

pub returns-then-ne-clause-err : goal.returns-then-ne-clause-err
returns-then-ne-clause-err c = refl
