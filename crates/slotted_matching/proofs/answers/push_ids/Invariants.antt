use Rattle.std.proofs.Common.{◌≡◌, ◌++◌, take, map}
use Rattle.slotted_proofs.specs.Equations.{to_applied}
use Rattle.slotted_match_machine.specs.Answers.{answer_of}
use Rattle.slotted_matching.specs.Answered.{ids_at}
use Rattle.slotted_matching.proofs.answers.push_ids.Given as goal

-- the ids so far
abbrev pub invariant-loop-number : goal.invariant-loop-number
invariant-loop-number g l = map to_applied l.ids.items ≡ map to_applied l.fn.ids.items ++ ids_at l.store l.names (take l.number-index l.order) (answer_of l.answer).values
