use Rattle.std.proofs.Common.{◌≡◌, length, slice_get}
use Rattle.std.specs.Str.{chars}
use Rattle.slotted_messages.specs.Columns.{word_columns}
use Rattle.slotted_messages.proofs.Words.{words_left}
use Rattle.slotted_messages.proofs.columns.word_column.Given as goal

-- the word that is sought stands among those that are left
abbrev pub invariant-loop-c : goal.invariant-loop-c
invariant-loop-c l = record {
  column : l.column ≡ length l.yielded;
  sought : slice_get (words_left l.before (chars l.text) (length l.yielded)) l.left ≡ slice_get (word_columns l.text) l.number;
}
