-- The rows that are left have the same ones of the outline.
use Rattle.std.proofs.Common.{◌≡◌, ◌≤◌, length}
use Rattle.slotted_match_machine.specs.Answers.{rows_of_outline}
use Rattle.slotted_match_machine.proofs.run.first_of_outline.Given as goal

abbrev pub invariant-loop-row : goal.invariant-loop-row
invariant-loop-row l = record {
  same : rows_of_outline l.outline l.rows ≡ rows_of_outline l.outline l.left;
  within : length l.left ≤ length l.rows;
}

abbrev pub decreases-loop-row : goal.decreases-loop-row
decreases-loop-row l = length l.left
