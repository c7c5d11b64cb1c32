use Rattle.std.proofs.Common.{◌≡◌, length, ◌+◌, ◌≤◌}
use Rattle.std.specs.Str.{chars}
use Rattle.slotted_messages.specs.Columns.{token_columns}
use Rattle.slotted_messages.proofs.Reading.{columns_left}
use Rattle.slotted_messages.proofs.columns.token_count.Given as goal

-- the tokens that began, and those that are left, are all
abbrev pub invariant-loop-c : goal.invariant-loop-c
invariant-loop-c l = record {
  room : l.count + goal.iterator-loop-c.remaining l.c-iterator ≤ goal.iterator-loop-c.remaining l.initial.c-iterator;
  counted : l.count + length (columns_left l.before (chars l.text) (length l.yielded)) ≡ length (token_columns l.text);
}
