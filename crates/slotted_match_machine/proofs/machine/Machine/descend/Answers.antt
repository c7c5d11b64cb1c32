-- Where no step is left there is one answer more.
use Rattle.std.proofs.Common.{◌++◌, ◌∙◌, ap}
use Rattle.slotted_match_machine.specs.Scratch.{scratch_of, state_of}
use Rattle.slotted_match_machine.specs.Answers.{answers_in, answered}
use Rattle.slotted_match_machine.specs.Choices.{answers_left}
use Rattle.slotted_match_machine.proofs.RowAnswers.{answers_from-end, answer-added}
use Rattle.slotted_match_machine.proofs.machine.Machine.descend.Goals as goal

pub returns-clause-answers : goal.returns-clause-answers
returns-clause-answers c =
    let m = c.loop-step.self in
    let a = c.args.answers.now.items in
    let end = answers_from-end (scratch_of m) c.loop-step.left.now c.in_default.ensures.cases in
    ap (λ l. answers_in a ++ l) (c.loop-step.invariant.answers ∙ ap (λ l. l ++ answers_left m) end)
    ∙ answer-added a c.push.new.self.items c.in_ok-answer.answer (answered (state_of (scratch_of m))) (answers_left m)
    c.in_ok-push.ensures.items c.in_ok-answer.ensures
