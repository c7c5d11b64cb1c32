use Rattle.std.proofs.Common.{sym, ◌∙◌, inl, inr, refl}
use Rattle.std.proofs.lemmas.Bool.{false≢true}
use Rattle.std.proofs.lemmas.Result.{IfOk-weaker, err_from_is_err_and, IfOk-from_err}
use Rattle.slotted_model.specs.ProofList.{transitive}
use Rattle.slotted_proofs.specs.Steps.{EntersStep, IsTransitiveStep}
use Rattle.slotted_proofs.proofs.Stepping.{transitive_told, own_sides_full}
use Rattle.slotted_proofs.proofs.Refusals.{fits_short, short_refuses, slots_left, misfit_has_slots}
use Rattle.slotted_proofs.specs.Entries.{statement_at}
use Rattle.slotted_proofs.proofs.list.ProofList.prove_transitive.Goals.{then-not-is_valid-via-then-not-is_valid, then-not-is_valid-via-else-not-is_valid+then-not-is_valid-2}
use Rattle.std.specs.Prelude.{Err}
use Rattle.slotted_proofs.proofs.list.ProofList.prove_transitive.Goals as goal

pub returns-then-not-branch-clause-refused : goal.returns-then-not-branch-clause-refused
returns-then-not-branch-clause-refused c = λ _ t.
    let told = transitive_told c.args.self.now c.args.equation.now c.equ.result.now c.equ-2.result.now c.args.p c.args.q (c.is_valid.ensures.0 c.if-not-is_valid.false) (c.is_valid-else-not-is_valid.ensures.0 c.if-not-is_valid-2.false) c.equ.ensures c.equ-2.ensures (record { left = c.requires.left; right = c.requires.right }) in
    false≢true (sym c.if-not-branch.true ∙ c.in_ok-is_joined.ensures.ok.1 (told.0 t))

pub returns-clause-fits : goal.returns-clause-fits
returns-clause-fits c =
    let list = c.args.self.now in
    let e = c.args.equation.now in
    let told = transitive_told list e c.equ.result.now c.equ-2.result.now c.args.p c.args.q (c.is_valid.ensures.0 c.if-not-is_valid.false) (c.is_valid-else-not-is_valid.ensures.0 c.if-not-is_valid-2.false) c.equ.ensures c.equ-2.ensures (record { left = c.requires.left; right = c.requires.right }) in
    IfOk-weaker c.enter_equality.result (EntersStep list c.enter_equality.new.self e (transitive c.args.p c.args.q)) (λ _. IsTransitiveStep list e c.args.p c.args.q)
    (λ _ _. told.1 (c.in_ok-is_joined.ensures.ok.0 c.if-not-branch.false)) c.enter_equality.ensures.ok

pub equ-requires : goal.equ-requires
equ-requires c = c.is_valid.ensures.0 c.if-not-is_valid.false

pub equ-requires-2 : goal.equ-requires-2
equ-requires-2 c = c.is_valid-else-not-is_valid.ensures.0 c.if-not-is_valid-2.false

pub is_joined-requires-clause-whole : goal.is_joined-requires-clause-whole
is_joined-requires-clause-whole c = record { left = c.requires.left; right = c.requires.right }

pub is_joined-requires-clause-first : goal.is_joined-requires-clause-first
is_joined-requires-clause-first c = own_sides_full (statement_at c.args.self.now c.args.p) c.equ.result.now c.equ.ensures

pub is_joined-requires-clause-second : goal.is_joined-requires-clause-second
is_joined-requires-clause-second c = own_sides_full (statement_at c.args.self.now c.args.q) c.equ-2.result.now c.equ-2.ensures

pub enter_equality-requires-clause-left : goal.enter_equality-requires-clause-left
enter_equality-requires-clause-left c = c.requires.left

pub enter_equality-requires-clause-right : goal.enter_equality-requires-clause-right
enter_equality-requires-clause-right c = c.requires.right

pub returns-clause-ok : goal.returns-clause-ok
returns-clause-ok c = c.enter_equality.ensures.ok

pub returns-clause-full : goal.returns-clause-full
returns-clause-full c = c.enter_equality.ensures.full.0

pub returns-clause-refused : goal.returns-clause-refused
returns-clause-refused c = λ bad. absurd (fits_short c.enter_equality.result c.enter_equality.ensures.only bad)

pub returns-clause-only : goal.returns-clause-only
returns-clause-only c = short_refuses c.enter_equality.result c.enter_equality.ensures.only

pub returns-clause-err : goal.returns-clause-err
returns-clause-err c = c.enter_equality.ensures.err

pub returns-then-not-is_valid-clause-refused : goal.returns-then-not-is_valid-clause-refused
returns-then-not-is_valid-clause-refused c = λ _ step. elim c.then-not-is_valid.branch [
  | then-not-is_valid-via-then-not-is_valid w ↦ false≢true (sym w.if-not-is_valid.true ∙ c.is_valid.ensures.1 step.first.in_range)
  | then-not-is_valid-via-else-not-is_valid+then-not-is_valid-2 w ↦ false≢true (sym w.if-not-is_valid-2.true ∙ w.is_valid-else-not-is_valid.ensures.1 step.second.in_range)
]

pub returns-in_err-is_joined-clause-fits : goal.returns-in_err-is_joined-clause-fits
returns-in_err-is_joined-clause-fits c = IfOk-from_err c.from_residual.result _ c.from_residual.ensures.0

pub returns-in_err-is_joined-clause-ok : goal.returns-in_err-is_joined-clause-ok
returns-in_err-is_joined-clause-ok c = IfOk-from_err c.from_residual.result _ c.from_residual.ensures.0

pub returns-in_err-is_joined-clause-refused : goal.returns-in_err-is_joined-clause-refused
returns-in_err-is_joined-clause-refused c =
    let r = err_from_is_err_and c.from_residual.result c.from_residual.ensures.1 in
    rw (r.1, r.2) (λ bad. absurd (fits_short (Err c.in_err-is_joined.field-0.0) (inl c.in_err-is_joined.ensures.err) bad))

pub returns-in_err-is_joined-clause-only : goal.returns-in_err-is_joined-clause-only
returns-in_err-is_joined-clause-only c =
    let r = err_from_is_err_and c.from_residual.result c.from_residual.ensures.1 in
    rw (r.1, r.2) (inr (inl c.in_err-is_joined.ensures.err))

pub returns-in_err-is_joined-clause-err : goal.returns-in_err-is_joined-clause-err
returns-in_err-is_joined-clause-err c =
    let r = err_from_is_err_and c.from_residual.result c.from_residual.ensures.1 in
    rw r.1 refl

pub returns-in_err-is_joined-clause-full : goal.returns-in_err-is_joined-clause-full
returns-in_err-is_joined-clause-full c =
    let r = err_from_is_err_and c.from_residual.result c.from_residual.ensures.1 in
    rw (r.1, r.2) (λ e. absurd (slots_left (Err c.in_err-is_joined.field-0.0) c.in_err-is_joined.ensures.err e))

pub returns-then-not-branch-clause-full : goal.returns-then-not-branch-clause-full
returns-then-not-branch-clause-full c = λ e. absurd (misfit_has_slots e)

pub returns-then-not-branch-clause-only : goal.returns-then-not-branch-clause-only
returns-then-not-branch-clause-only c = inl refl

pub returns-then-not-branch-clause-err : goal.returns-then-not-branch-clause-err
returns-then-not-branch-clause-err c = refl

pub returns-then-not-is_valid-clause-full : goal.returns-then-not-is_valid-clause-full
returns-then-not-is_valid-clause-full c = λ e. absurd (misfit_has_slots e)

pub returns-then-not-is_valid-clause-only : goal.returns-then-not-is_valid-clause-only
returns-then-not-is_valid-clause-only c = inl refl

pub returns-then-not-is_valid-clause-err : goal.returns-then-not-is_valid-clause-err
returns-then-not-is_valid-clause-err c = refl
