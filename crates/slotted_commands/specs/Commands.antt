-- What a line asks: a command is its word, one space and the rest, or its word alone.
use Rattle.std.specs.Prelude.{ℕ, List, Option, Some, None, if◌then◌else◌, ◌==◌, bytes_eq, codes}
pub use Rattle.slotted_lists.specs.Texts.{rest_behind, in_front_or, parts_around}

-- to add a text; to compare two texts; to unite two texts; to explain why two texts are equal; to extract from a text; to count symmetries;
-- or nothing that is known
pub data Command : Type 0 where
  adds : (text : List ℕ) → Command
  compares : (left right : List ℕ) → Command
  unites : (left right : List ℕ) → Command
  explains : (left right : List ℕ) → Command
  extracts : (text : List ℕ) → Command
  counts : Command
  no_command : Command

-- what is asked of two texts, where there are two
abbrev pub of_two : (List ℕ → List ℕ → Command) → Option (List ℕ × List ℕ) → Command
of_two command (Some p) = command p.0 p.1
of_two command None = no_command

-- what is asked by what follows the word `eq`, by what follows the word `union`, and by what follows the word `explain`
abbrev pub pair_by : Option (List ℕ) → Option (List ℕ) → Option (List ℕ) → Command
pair_by (Some texts) _ _ = of_two compares (parts_around (codes " == ") texts)
pair_by None (Some texts) _ = of_two unites (parts_around (codes " == ") texts)
pair_by None None (Some texts) = of_two explains (parts_around (codes " == ") texts)
pair_by None None None = no_command

-- what a line asks of two texts
unfoldable pub asked_of_pair : List ℕ → Command
asked_of_pair line = pair_by (rest_behind (codes "eq ") line) (rest_behind (codes "union ") line) (rest_behind (codes "explain ") line)

-- what is asked by what follows the word `add`, by what follows the word `extract`, or else this
abbrev pub one_or : Option (List ℕ) → Option (List ℕ) → Command → Command
one_or (Some text) _ other = adds text
one_or None (Some text) other = extracts text
one_or None None other = other

-- what a line asks of one text, or else of two
unfoldable pub asked_of_text : List ℕ → Command
asked_of_text line = one_or (rest_behind (codes "add ") line) (rest_behind (codes "extract ") line) (asked_of_pair line)

-- what a line asks: one that is the word `symmetries` asks to count them
unfoldable pub command_of : List ℕ → Command
command_of line = if bytes_eq line (codes "symmetries") then counts else asked_of_text line
