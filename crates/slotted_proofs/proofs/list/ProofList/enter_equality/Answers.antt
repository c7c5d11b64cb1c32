use Rattle.slotted_proofs.specs.Equations.{to_applied, equality}
use Rattle.slotted_proofs.proofs.Written.{own_sides, stated}
use Rattle.std.proofs.Common.{subst, refl}
use Rattle.std.specs.Prelude.{IfOk}
use Rattle.slotted_proofs.specs.Entries.{Enters, step_of, text_of}
use Rattle.slotted_proofs.proofs.Refusals.{memory_short, slots_left, same_err, no_error}
use Rattle.std.proofs.lemmas.Result.{err_from_is_err_and, IfOk-from_err}
use Rattle.slotted_slots.specs.declared.error.Error.TheVariants.{OutOfSlots}
use Rattle.slotted_proofs.proofs.list.ProofList.enter_equality.Goals as goal

pub enter-requires : goal.enter-requires
enter-requires c =
    let e = c.in_ok-equation.equation in
    own_sides (equality (to_applied c.args.l.now) (to_applied c.args.r.now)) (to_applied e.l) (to_applied e.r) c.in_ok-equation.ensures.ok

pub numbered-requires-clause-left : goal.numbered-requires-clause-left
numbered-requires-clause-left c = c.requires.left

pub numbered-requires-clause-right : goal.numbered-requires-clause-right
numbered-requires-clause-right c = c.requires.right

pub returns-clause-ok : goal.returns-clause-ok
returns-clause-ok c =
    let e = c.in_ok-equation.equation in
    let is = stated (equality (to_applied c.args.l.now) (to_applied c.args.r.now)) (to_applied e.l) (to_applied e.r) c.in_ok-equation.ensures.ok in
    subst (λ s. IfOk c.enter.result (Enters c.args.self.now c.enter.new.self (record { statement = s; step = step_of c.args.proof; text = text_of c.args.proof }))) is c.enter.ensures.ok

pub returns-clause-full : goal.returns-clause-full
returns-clause-full c = (λ e. absurd (slots_left c.enter.result c.enter.ensures.memory e), λ many. absurd (no_error c.in_ok-equation.equation OutOfSlots (c.in_ok-equation.ensures.full.1 many)))

pub returns-clause-only : goal.returns-clause-only
returns-clause-only c = memory_short c.enter.result c.enter.ensures.memory

pub returns-clause-err : goal.returns-clause-err
returns-clause-err c = c.enter.ensures.err

pub returns-in_err-equation-clause-ok : goal.returns-in_err-equation-clause-ok
returns-in_err-equation-clause-ok c = IfOk-from_err c.from_residual.result _ c.from_residual.ensures.0

pub returns-in_err-equation-clause-full : goal.returns-in_err-equation-clause-full
returns-in_err-equation-clause-full c =
    let r = err_from_is_err_and c.from_residual.result c.from_residual.ensures.1 in
    rw (r.1, r.2) (
      λ e. c.in_err-equation.ensures.full.0 (same_err c.in_err-equation.field-0.0 OutOfSlots e),
      λ many. same_err c.in_err-equation.field-0.0 OutOfSlots (c.in_err-equation.ensures.full.1 many),
    )

pub returns-in_err-equation-clause-only : goal.returns-in_err-equation-clause-only
returns-in_err-equation-clause-only c =
    let r = err_from_is_err_and c.from_residual.result c.from_residual.ensures.1 in
    rw (r.1, r.2) c.in_err-equation.ensures.err

pub returns-in_err-equation-clause-err : goal.returns-in_err-equation-clause-err
returns-in_err-equation-clause-err c =
    let r = err_from_is_err_and c.from_residual.result c.from_residual.ensures.1 in
    rw r.1 refl
