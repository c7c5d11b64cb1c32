-- Each step that was taken leaves the same to be answered.
use Rattle.std.proofs.Common.{◌≡◌, ◌≤◌, ◌+◌, ◌++◌, length}
use Rattle.slotted_match_machine.specs.Scratch.{IsReadable, scratch_of}
use Rattle.slotted_match_machine.specs.Answers.{answers_from}
use Rattle.slotted_match_machine.specs.Choices.{HasChoices, answers_left, moves_after, moves_left}
use Rattle.slotted_match_machine.proofs.machine.Machine.descend.Given as goal

abbrev pub invariant-loop-step : goal.invariant-loop-step
invariant-loop-step l = record {
  answers : answers_from (scratch_of l.initial.self) l.steps ++ answers_left l.initial.self ≡ answers_from (scratch_of l.self) l.left ++ answers_left l.self;
  readable : IsReadable (scratch_of l.self);
  choices : HasChoices l.self;
  classes : (scratch_of l.self).classes ≡ (scratch_of l.initial.self).classes;
  moves : moves_left l.self + moves_after (scratch_of l.initial.self).classes l.left
      ≤ moves_after (scratch_of l.initial.self).classes l.steps + moves_left l.initial.self;
}

abbrev pub decreases-loop-step : goal.decreases-loop-step
decreases-loop-step l = length l.left
