use Rattle.std.proofs.Common.{◌≡◌, ◌≤◌, ◌+◌, ◌*◌, take, length, map}
use Rattle.std.specs.Prelude.{string_bytes}
use Rattle.slotted_slots.specs.Table.{KnowsMore}
use Rattle.slotted_proofs.specs.Equations.{to_applied}
use Rattle.slotted_match_machine.specs.Answers.{answers_in}
use Rattle.slotted_matching.specs.Matches.{answers_over}
use Rattle.slotted_matching.specs.Answered.{InTurn, IsNamedAnswer, number_count}
use Rattle.slotted_matching.proofs.NumberedNames.{by_bytes}
use Rattle.slotted_matching.proofs.answers.answers_with_slots.Given as goal

-- the answers so far are named in turn, and each of their numbers took one slot at most
abbrev pub invariant-loop-answer : goal.invariant-loop-answer
invariant-loop-answer g l = record {
  named : InTurn (IsNamedAnswer l.store (map string_bytes l.program.variables.items)) l.fn.table l.table
      (answers_over (map (λ e. e.0) (by_bytes l.numbers.entries)) (map to_applied l.ids.items) l.answer-index) (take l.answer-index (answers_in l.answers));
  count : length (map to_applied l.ids.items) ≡ l.answer-index * length (by_bytes l.numbers.entries);
  kept : l.table.names ≡ l.fn.table.names;
  taken : l.table.fresh ≤ l.fn.table.fresh + number_count (take l.answer-index (answers_in l.answers));
  more : KnowsMore l.fn.table l.table;
}
