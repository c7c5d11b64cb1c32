-- Names of slots and variables: what may follow a `$` or a `?` in one token.
use Rattle.std.specs.Prelude.{ℕ, Bool, not, ◌&&◌, ◌||◌, ◌==◌, List, length}
use Rattle.std.specs.Char.{is_whitespace}
use Rattle.std.specs.List.{list_all}
use Rattle.std.specs.Str.{chars}

-- neither white space nor a bracket
abbrev pub is_of_name : ℕ → Bool
is_of_name c = not (is_whitespace c || c == 40 || c == 41 || c == 91 || c == 93)

-- one character or more, and no other ones
abbrev pub is_name : List ℕ → Bool
is_name bs = not (length bs == 0) && list_all is_of_name (chars bs)
