-- The columns of tokens and of words are those of the tokens that the parser of slotted_patterns reads, whatever the table of slots is.
--     CountsTokens bs n              n is the number of the tokens of a text
--     IsColumnBehind bs n column     a column of a text is where it goes on behind n tokens
--     IsColumnOfWord bs n column     the same behind tokens of which n are words, where a word follows
--     IsNonePastWords bs n column    there is no column if the text has at most n words
use Rattle.std.specs.Prelude.{◌≡◌, ℕ, ◌-◌, ◌≤◌, Bool, true, false, List, [], ◌∷◌, length, Option, Some, None}
use Rattle.std.specs.List.{filter}
use Rattle.std.specs.Str.{chars}
use Rattle.slotted_slots.specs.Syntax.{Lexeme, slot, word, variable, colon_equals, left_paren, right_paren, left_bracket, right_bracket}
use Rattle.slotted_slots.specs.Table.{Table}
use Rattle.slotted_patterns.specs.Tokens.{token, after_white_space, next_token, BeginsWith, HasTokens}

-- it is the number of the tokens that are read of a text, if all are read
abbrev pub CountsTokens : List ℕ → ℕ → Type 0
CountsTokens bs n = (t u : Table) (ls : List Lexeme) → HasTokens t (chars bs) ls u → n ≡ length ls

-- the column in a text, in characters from 1, at which this rest of it begins, if it is not empty
abbrev pub column_of_rest : List ℕ → List ℕ → Option ℕ
column_of_rest cs [] = None
column_of_rest cs (d ∷ ds) = Some (length cs - length ds)

-- it is where the text goes on behind this many tokens
abbrev pub IsColumnBehind : List ℕ → ℕ → Option ℕ → Type 0
IsColumnBehind bs number column =
    (t u : Table) (ls : List Lexeme) (rest : List ℕ) → BeginsWith t (chars bs) ls rest u → number ≡ length ls
    → column ≡ column_of_rest (chars bs) (after_white_space rest)

abbrev pub is_word : Lexeme → Bool
is_word (slot s) = false
is_word (word w) = true
is_word (variable v) = false
is_word colon_equals = false
is_word left_paren = false
is_word right_paren = false
is_word left_bracket = false
is_word right_bracket = false

-- how many of these tokens are words
abbrev pub word_count : List Lexeme → ℕ
word_count ls = length (filter is_word ls)

-- it is where the text goes on with a word behind tokens of which this many are words
abbrev pub IsColumnOfWord : List ℕ → ℕ → Option ℕ → Type 0
IsColumnOfWord bs number column =
    (t u v : Table) (ls : List Lexeme) (rest after w : List ℕ) → BeginsWith t (chars bs) ls rest u → next_token u rest ≡ token (word w) after v
    → number ≡ word_count ls → column ≡ column_of_rest (chars bs) (after_white_space rest)

-- it is none if the text has no more words
abbrev pub IsNonePastWords : List ℕ → ℕ → Option ℕ → Type 0
IsNonePastWords bs number column = (t u : Table) (ls : List Lexeme) → HasTokens t (chars bs) ls u → word_count ls ≤ number → column ≡ None
