use Rattle.std.proofs.Common.{◌↔◌, IfOk, IsTrue, subst}
use Rattle.slotted_proofs.specs.Steps.{IsAsked}
use Rattle.std.proofs.lemmas.Result.{err_from_is_err_and, IfOk-from_err}
use Rattle.slotted_proofs.proofs.steps.joins_as.Goals as goal

pub shared_over-requires-clause-to : goal.shared_over-requires-clause-to
shared_over-requires-clause-to c = c.requires.first.right

pub shared_over-requires-clause-last : goal.shared_over-requires-clause-last
shared_over-requires-clause-last c = c.requires.second.right

pub are_asked-requires-clause-first : goal.are_asked-requires-clause-first
are_asked-requires-clause-first c = c.requires.first

pub are_asked-requires-clause-second : goal.are_asked-requires-clause-second
are_asked-requires-clause-second c = c.requires.second

pub returns-clause-ok : goal.returns-clause-ok
returns-clause-ok c =
    subst (λ over. IfOk c.are_asked.result (λ yes. IsTrue yes ↔ IsAsked over c.args.first.now c.args.second.now c.args.asked.now))
    c.in_ok-over.ensures.ok c.are_asked.ensures.ok

pub returns-clause-err : goal.returns-clause-err
returns-clause-err c = c.are_asked.ensures.err

pub returns-in_err-over-clause-ok : goal.returns-in_err-over-clause-ok
returns-in_err-over-clause-ok c = IfOk-from_err c.from_residual.result _ c.from_residual.ensures.0

pub returns-in_err-over-clause-err : goal.returns-in_err-over-clause-err
returns-in_err-over-clause-err c =
    let r = err_from_is_err_and c.from_residual.result c.from_residual.ensures.1 in
    rw (r.1, r.2) c.in_err-over.ensures.err
