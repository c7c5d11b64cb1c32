-- What was answered, and what is left at the choices, is all that there is to answer. Each time fewer rows can be visited.
use Rattle.std.proofs.Common.{◌≡◌, ◌++◌}
use Rattle.slotted_match_machine.specs.Scratch.{scratch_of}
use Rattle.slotted_match_machine.specs.Answers.{answers_in, answers_from}
use Rattle.slotted_match_machine.specs.Choices.{HasChoices, answers_left, moves_left}
use Rattle.slotted_match_machine.proofs.machine.Machine.run.Given as goal

abbrev pub invariant-loop-choice : goal.invariant-loop-choice
invariant-loop-choice l = record {
  answers : answers_in l.fn.answers.items ++ answers_from (scratch_of l.fn.self) l.steps ≡ answers_in l.answers.items ++ answers_left l.self;
  choices : HasChoices l.self;
  classes : (scratch_of l.self).classes ≡ (scratch_of l.fn.self).classes;
}

abbrev pub decreases-loop-choice : goal.decreases-loop-choice
decreases-loop-choice l = moves_left l.self
