-- The occurrences that were copied.
use Rattle.std.proofs.Common.{◌≡◌, map, take}
use Rattle.slotted_match_machine.specs.Views.{occurrence_of}
use Rattle.slotted_match_machine.specs.Answers.{occurrence_in}
use Rattle.slotted_match_machine.proofs.view.occurrences.Given as goal

abbrev pub invariant-loop-view : goal.invariant-loop-view
invariant-loop-view l = map occurrence_in l.copies.items ≡ map (occurrence_of l.frames) (take l.view-index l.views)
