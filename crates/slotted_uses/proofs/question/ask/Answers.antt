use Rattle.std.proofs.lemmas.Result.{IfErr-weaker, err_from_is_err_and}
use Rattle.slotted_lists.proofs.Results.{IfOk-with}
use Rattle.slotted_workspace.specs.Asked.{ChangesGraph, OfBoth, RefusesBoth}
use Rattle.slotted_workspace.specs.Decided.{DecideRefused}
use Rattle.slotted_uses.specs.Questions.{AnswersQuestion, Judges, QuestionRefused, proof_refused, right_refused, run_refused}
use Rattle.slotted_uses.proofs.Standing.{answered, both-added}
use Rattle.slotted_uses.proofs.question.ask.Goals as goal

pub returns-in_err-second-clause-err : goal.returns-in_err-second-clause-err
returns-in_err-second-clause-err g c =
    let p = err_from_is_err_and c.from_residual-in_err-second.result c.from_residual-in_err-second.ensures.1 in
    rw (p.1, p.2) (right_refused c.add.new.self c.in_ok-first.first c.in_ok-first.ensures.ok c.in_err-second.ensures.err)

pub returns-in_err-report-clause-err : goal.returns-in_err-report-clause-err
returns-in_err-report-clause-err g c =
    let s = c.args.workspace.now in
    let first = c.in_ok-first.first in
    let second = c.in_ok-second.second in
    let p = err_from_is_err_and c.from_residual-in_err-report.result c.from_residual-in_err-report.ensures.1 in
    rw (p.1, p.2) (run_refused c.add-2.new.self first second
    (both-added g.L.LanguageChildren.read s c.add.new.self c.add-2.new.self c.args.left.now c.args.right.now first second c.in_ok-first.ensures.ok c.in_ok-second.ensures.ok) c.in_err-report.ensures.err)

pub returns-clause-ok : goal.returns-clause-ok
returns-clause-ok g c =
    let form = g.L.LanguageChildren.form in
    let read = g.L.LanguageChildren.read in
    let written = g.L.Printable.written in
    let s = c.args.workspace.now in
    let both = c.add-2.new.self in
    let ran = c.run_decided.new.self in
    let v = c.judge.new.workspace in
    let first = c.in_ok-first.first in
    let second = c.in_ok-second.second in
    let run = c.in_ok-report.report in
    IfOk-with c.judge.result (ChangesGraph ran v) (λ x. OfBoth ran first second (λ t u. Judges written ran.graph v.graph run.stop t u x))
    (AnswersQuestion form read written c.args.limits s v c.args.left.now c.args.right.now)
    (λ x changes judged. answered read s c.add.new.self both c.args.left.now c.args.right.now first second c.in_ok-first.ensures.ok c.in_ok-second.ensures.ok
    form written c.args.limits ran v run x c.in_ok-report.ensures.ok c.in_ok-report.ensures.rest judged changes)
    c.judge.ensures.rest c.judge.ensures.ok

pub returns-clause-err : goal.returns-clause-err
returns-clause-err g c =
    let form = g.L.LanguageChildren.form in
    let read = g.L.LanguageChildren.read in
    let written = g.L.Printable.written in
    let s = c.args.workspace.now in
    let both = c.add-2.new.self in
    let ran = c.run_decided.new.self in
    let v = c.judge.new.workspace in
    let first = c.in_ok-first.first in
    let second = c.in_ok-second.second in
    IfErr-weaker c.judge.result (RefusesBoth ran v first second (λ _ _. DecideRefused ran.graph v.graph))
    (QuestionRefused form read c.args.limits s v c.args.left.now c.args.right.now)
    (λ e r. proof_refused both ran c.in_ok-report.report first second
    (both-added read s c.add.new.self both c.args.left.now c.args.right.now first second c.in_ok-first.ensures.ok c.in_ok-second.ensures.ok) c.in_ok-report.ensures.ok c.in_ok-report.ensures.rest r)
    c.judge.ensures.err
