use Rattle.std.proofs.Common.{◌≡◌, length, slice_get}
use Rattle.std.specs.Str.{chars}
use Rattle.slotted_messages.specs.Columns.{token_columns}
use Rattle.slotted_messages.proofs.Reading.{columns_left}
use Rattle.slotted_messages.proofs.columns.token_column.Given as goal

-- the token that is sought stands among those that are left
abbrev pub invariant-loop-c : goal.invariant-loop-c
invariant-loop-c l = record {
  column : l.column ≡ length l.yielded;
  sought : slice_get (columns_left l.before (chars l.text) (length l.yielded)) l.left ≡ slice_get (token_columns l.text) l.number;
}
