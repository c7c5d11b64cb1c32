use Rattle.std.proofs.Common.{◌≡◌, ◌↔◌, IsTrue, sym, ◌∙◌}
use Rattle.std.proofs.lemmas.Bool.{false≢true}
use Rattle.std.proofs.lemmas.Result.{IfOk-weaker, err_from_is_err_and, IfOk-from_err}
use Rattle.slotted_proofs.specs.Steps.{IsAsked, reached_pairs}
use Rattle.slotted_proofs.proofs.steps.are_asked.Goals as goal

pub are_known-requires-clause-left : goal.are_known-requires-clause-left
are_known-requires-clause-left c = c.requires.first.left

pub are_known-requires-clause-right : goal.are_known-requires-clause-right
are_known-requires-clause-right c = c.requires.first.right

pub returns-then-not-branch-clause-ok : goal.returns-then-not-branch-clause-ok
returns-then-not-branch-clause-ok c = (λ y. absurd (false≢true y), λ h. absurd (false≢true (sym c.if-not-branch.true ∙ c.in_ok-are_known.ensures.ok.1 h.0)))

pub are_reached-requires-clause-left : goal.are_reached-requires-clause-left
are_reached-requires-clause-left c = c.requires.second.left

pub are_reached-requires-clause-right : goal.are_reached-requires-clause-right
are_reached-requires-clause-right c = c.requires.second.right

pub returns-clause-ok : goal.returns-clause-ok
returns-clause-ok c =
    let over = c.args.over.now in
    let first = c.args.first.now in
    let second = c.args.second.now in
    let asked = c.args.asked.now in
    IfOk-weaker c.are_reached.result (λ yes. IsTrue yes ↔ over ≡ reached_pairs asked second) (λ yes. IsTrue yes ↔ IsAsked over first second asked)
    (λ _ told. (λ y. (c.in_ok-are_known.ensures.ok.0 c.if-not-branch.false, told.0 y), λ h. told.1 h.1)) c.are_reached.ensures.ok

pub returns-clause-err : goal.returns-clause-err
returns-clause-err c = c.are_reached.ensures.err

pub returns-in_err-are_known-clause-ok : goal.returns-in_err-are_known-clause-ok
returns-in_err-are_known-clause-ok c = IfOk-from_err c.from_residual.result _ c.from_residual.ensures.0

pub returns-in_err-are_known-clause-err : goal.returns-in_err-are_known-clause-err
returns-in_err-are_known-clause-err c =
    let r = err_from_is_err_and c.from_residual.result c.from_residual.ensures.1 in
    rw (r.1, r.2) c.in_err-are_known.ensures.err
