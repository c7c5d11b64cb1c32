-- The text of a word, wherever it stands.
use Rattle.std.specs.Prelude.{ℕ, List, string_bytes}
use Rattle.slotted_nodes.specs.declared.payload.Text.{Text}
use Rattle.slotted_nodes.specs.declared.payload.Text.TheVariants.{Short, Long}

-- the bytes of a word
abbrev pub word_bytes : Text → List ℕ
word_bytes (Short short) = short.bytes
word_bytes (Long long) = string_bytes long
