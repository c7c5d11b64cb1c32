use Rattle.std.proofs.Common.{◌∙◌, ap, subst, ◌≡◌, length, refl, sym}
use Rattle.std.specs.Prelude.{IfOk, None}
use Rattle.slotted_model.specs.ProofList.{symmetric}
use Rattle.slotted_proofs.specs.Equations.{to_applied, statement_of, turned_statement}
use Rattle.slotted_proofs.specs.Entries.{statement_at, Enters}
use Rattle.slotted_proofs.proofs.Written.{stated, own_sides}
use Rattle.std.proofs.lemmas.Result.{err_from_is_err_and, IfOk-from_err}
use Rattle.slotted_proofs.proofs.Refusals.{left_long, right_long, memory_short, slots_left, same_err, no_error, counted}
use Rattle.slotted_slots.specs.declared.error.Error.TheVariants.{OutOfSlots}
use Rattle.slotted_slots.specs.Table.{slot_limit}
use Rattle.slotted_proofs.proofs.list.ProofList.enter_symmetric.Goals as goal

pub enter-requires : goal.enter-requires
enter-requires c =
    let e = c.in_ok-equation.equation in
    own_sides (turned_statement (statement_of c.equ.result.now)) (to_applied e.l) (to_applied e.r) c.in_ok-equation.ensures.ok

pub returns-clause-ok : goal.returns-clause-ok
returns-clause-ok c =
    let f = c.equ.result.now in
    let e = c.in_ok-equation.equation in
    let is = stated (turned_statement (statement_of f)) (to_applied e.l) (to_applied e.r) c.in_ok-equation.ensures.ok
    ∙ ap turned_statement (stated (statement_at c.args.self.now c.args.p) (to_applied f.l) (to_applied f.r) c.equ.ensures) in
    subst (λ s. IfOk c.enter.result (Enters c.args.self.now c.enter.new.self (record { statement = s; step = symmetric c.args.p; text = None }))) is c.enter.ensures.ok

pub equ-requires : goal.equ-requires
equ-requires c = c.requires

pub turned-requires-clause-left : goal.turned-requires-clause-left
turned-requires-clause-left c = c.equ.ensures.left_full.injective

pub turned-requires-clause-right : goal.turned-requires-clause-right
turned-requires-clause-right c = c.equ.ensures.right_full.injective

pub returns-in_err-equation-clause-full : goal.returns-in_err-equation-clause-full
returns-in_err-equation-clause-full c =
    let s = statement_at c.args.self.now c.args.p in
    let f = c.equ.result.now in
    let l : length s.left_slots ≡ length f.l.m = left_long s (to_applied f.l) (to_applied f.r) c.equ.ensures in
    let k : length s.right_slots ≡ length f.r.m = right_long s (to_applied f.l) (to_applied f.r) c.equ.ensures in
    let r = err_from_is_err_and c.from_residual.result c.from_residual.ensures.1 in
    rw (r.1, r.2) (
      λ e. counted slot_limit (length f.l.m) (length f.r.m) (length s.left_slots) (length s.right_slots) (sym l) (sym k) (c.in_err-equation.ensures.full.0 (same_err c.in_err-equation.field-0.0 OutOfSlots e)),
      λ many. same_err c.in_err-equation.field-0.0 OutOfSlots (c.in_err-equation.ensures.full.1 (counted slot_limit (length s.left_slots) (length s.right_slots) (length f.l.m) (length f.r.m) l k many)),
    )

pub returns-clause-full : goal.returns-clause-full
returns-clause-full c =
    let s = statement_at c.args.self.now c.args.p in
    let f = c.equ.result.now in
    let l : length s.left_slots ≡ length f.l.m = left_long s (to_applied f.l) (to_applied f.r) c.equ.ensures in
    let k : length s.right_slots ≡ length f.r.m = right_long s (to_applied f.l) (to_applied f.r) c.equ.ensures in
    (λ e. absurd (slots_left c.enter.result c.enter.ensures.memory e), λ many. absurd (no_error c.in_ok-equation.equation OutOfSlots (c.in_ok-equation.ensures.full.1 (counted slot_limit (length s.left_slots) (length s.right_slots) (length f.l.m) (length f.r.m) l k many))))

pub returns-clause-only : goal.returns-clause-only
returns-clause-only c = memory_short c.enter.result c.enter.ensures.memory

pub returns-clause-err : goal.returns-clause-err
returns-clause-err c = c.enter.ensures.err

pub returns-in_err-equation-clause-ok : goal.returns-in_err-equation-clause-ok
returns-in_err-equation-clause-ok c = IfOk-from_err c.from_residual.result _ c.from_residual.ensures.0

pub returns-in_err-equation-clause-only : goal.returns-in_err-equation-clause-only
returns-in_err-equation-clause-only c =
    let r = err_from_is_err_and c.from_residual.result c.from_residual.ensures.1 in
    rw (r.1, r.2) c.in_err-equation.ensures.err

pub returns-in_err-equation-clause-err : goal.returns-in_err-equation-clause-err
returns-in_err-equation-clause-err c =
    let r = err_from_is_err_and c.from_residual.result c.from_residual.ensures.1 in
    rw r.1 refl
