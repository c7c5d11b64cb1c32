use Rattle.slotted_proofs.specs.Equations.{to_applied, equality}
use Rattle.slotted_proofs.proofs.Stepping.{entry_stands}
use Rattle.slotted_proofs.proofs.Written.{own_sides}
use Rattle.std.proofs.lemmas.Result.{err_from_is_err_and, IfOk-from_err}
use Rattle.slotted_proofs.proofs.Refusals.{same_err, no_error}
use Rattle.slotted_slots.specs.declared.error.Error.TheVariants.{OutOfSlots}
use Rattle.slotted_proofs.proofs.list.ProofList.is_entry.Goals as goal

pub has_at-requires : goal.has_at-requires
has_at-requires c =
    let e = c.in_ok-asked.asked in
    own_sides (equality (to_applied c.args.l.now) (to_applied c.args.r.now)) (to_applied e.l) (to_applied e.r) c.in_ok-asked.ensures.ok

pub returns-clause-ok : goal.returns-clause-ok
returns-clause-ok c =
    let stands = entry_stands c.args.self.now c.args.p (to_applied c.args.l.now) (to_applied c.args.r.now) c.in_ok-asked.asked c.in_ok-asked.ensures.ok c.requires.left c.requires.right in (
      λ y. stands.0 (c.has_at.ensures.0 y),
      λ i. c.has_at.ensures.1 (stands.1 i),
    )

pub numbered-requires-clause-left : goal.numbered-requires-clause-left
numbered-requires-clause-left c = c.requires.left

pub numbered-requires-clause-right : goal.numbered-requires-clause-right
numbered-requires-clause-right c = c.requires.right

pub returns-clause-full : goal.returns-clause-full
returns-clause-full c = (λ e. absurd (no_error c.has_at.result OutOfSlots e), λ many. absurd (no_error c.in_ok-asked.asked OutOfSlots (c.in_ok-asked.ensures.full.1 many)))

pub returns-in_err-asked-clause-ok : goal.returns-in_err-asked-clause-ok
returns-in_err-asked-clause-ok c = IfOk-from_err c.from_residual.result _ c.from_residual.ensures.0

pub returns-in_err-asked-clause-full : goal.returns-in_err-asked-clause-full
returns-in_err-asked-clause-full c =
    let r = err_from_is_err_and c.from_residual.result c.from_residual.ensures.1 in
    rw (r.1, r.2) (
      λ e. c.in_err-asked.ensures.full.0 (same_err c.in_err-asked.field-0.0 OutOfSlots e),
      λ many. same_err c.in_err-asked.field-0.0 OutOfSlots (c.in_err-asked.ensures.full.1 many),
    )

pub returns-in_err-asked-clause-err : goal.returns-in_err-asked-clause-err
returns-in_err-asked-clause-err c =
    let r = err_from_is_err_and c.from_residual.result c.from_residual.ensures.1 in
    rw (r.1, r.2) c.in_err-asked.ensures.err
