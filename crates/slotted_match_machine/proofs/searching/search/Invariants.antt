-- The answers at the classes so far, from an index that is the same.
use Rattle.std.specs.List.{flat_map}
use Rattle.std.proofs.Common.{◌≡◌, take}
use Rattle.slotted_match_machine.specs.Machine.{answers_at}
use Rattle.slotted_match_machine.specs.Answers.{answers_in}
use Rattle.slotted_match_machine.specs.Scratch.{scratch_of}
use Rattle.slotted_match_machine.proofs.searching.search.Given as goal

abbrev pub invariant-loop-class : goal.invariant-loop-class
invariant-loop-class l = record {
  answers : answers_in l.answers.items ≡ flat_map (answers_at l.index.classes.items l.steps) (take l.class-index l.index.live.items);
  classes : (scratch_of l.machine).classes ≡ l.index.classes.items;
}
