-- The tokens of a text, over its characters, and the names that they leave in the table.
use Rattle.std.specs.Prelude.{◌≡◌, ℕ, Bool, not, ◌&&◌, ◌||◌, ◌==◌, if◌then◌else◌, Option, Some, None, is_some, List, [], ◌∷◌, drop, take_while, slice_index, encode_utf8_all}
use Rattle.std.specs.List.{prefix_len}
use Rattle.std.specs.Char.{is_whitespace}
use Rattle.slotted_slots.specs.Syntax.{Lexeme, slot, word, variable, colon_equals, left_paren, right_paren, left_bracket, right_bracket, no_token}
use Rattle.slotted_slots.specs.Table.{Table, named_of, NamedOutcome, gives, too_large, no_place}
use Rattle.slotted_patterns.specs.Outcome.{PatternOutcome, outside, number_too_large, out_of_slots}

-- the token of a round or square bracket
abbrev pub bracket_of : ℕ → Option Lexeme
bracket_of c =
    if c == 40 then Some left_paren else
    (if c == 41 then Some right_paren else (if c == 91 then Some left_bracket else (if c == 93 then Some right_bracket else None)))

-- a character of a run: neither white space nor a bracket
abbrev pub is_of_run : ℕ → Bool
is_of_run c = not (is_whitespace c || is_some (bracket_of c))

-- the run at the front of a text, and the text after it
abbrev pub run : List ℕ → List ℕ
run cs = take_while is_of_run cs

abbrev pub after_run : List ℕ → List ℕ
after_run cs = drop (prefix_len is_of_run cs) cs

-- a text without the white space at its front
abbrev pub after_white_space : List ℕ → List ℕ
after_white_space cs = drop (prefix_len is_whitespace cs) cs

-- what stands at the front of a text: only white space; a token, with the text after it and the table that it leaves;
-- or no token, so that the text is refused
pub data Next : Type 0 where
  nothing : Next
  token : (lexeme : Lexeme) (rest : List ℕ) (table : Table) → Next
  refused : (outcome : PatternOutcome) → Next

-- a variable of this run, which may not be empty
abbrev pub variable_token : Table → List ℕ → List ℕ → Next
variable_token t [] rest = refused (outside (no_token (encode_utf8_all rest)))
variable_token t (c ∷ cs) rest = token (variable (encode_utf8_all (c ∷ cs))) rest t

-- the slot that the table gives for a name
abbrev pub named_token : NamedOutcome → List ℕ → Next
named_token (gives s t) rest = token (slot s) rest t
named_token too_large rest = refused number_too_large
named_token no_place rest = refused out_of_slots

-- a slot named by this run, which may not be empty
abbrev pub slot_token : Table → List ℕ → List ℕ → Next
slot_token t [] rest = refused (outside (no_token (encode_utf8_all rest)))
slot_token t (c ∷ cs) rest = named_token (named_of t (encode_utf8_all (c ∷ cs))) rest

-- the characters of `:=`
abbrev pub is_colon_equals : ℕ → List ℕ → Bool
is_colon_equals c cs = c == 58 && slice_index cs 0 == 61

-- what begins with a character that is no bracket: `:=`, a `?` or `$` with a run, or else a word
unfoldable pub sign_or_word : Table → ℕ → List ℕ → Next
sign_or_word t c cs =
    if is_colon_equals c cs then token colon_equals (drop 1 cs) t else
    (if c == 63 then variable_token t (run cs) (after_run cs) else
    (if c == 36 then slot_token t (run cs) (after_run cs) else
    token (word (encode_utf8_all (run (c ∷ cs)))) (after_run (c ∷ cs)) t))

abbrev pub bracket_or : Option Lexeme → Table → ℕ → List ℕ → Next
bracket_or (Some l) t c cs = token l cs t
bracket_or None t c cs = sign_or_word t c cs

-- what stands at the front of a text that begins with no white space
abbrev pub token_at : Table → List ℕ → Next
token_at t [] = nothing
token_at t (c ∷ cs) = bracket_or (bracket_of c) t c cs

-- what stands at the front of a text
unfoldable pub next_token : Table → List ℕ → Next
next_token t cs = token_at t (after_white_space cs)

-- these tokens stand at the front of a text, one after another, and leave this text and this table
abbrev pub BeginsWith : Table → List ℕ → List Lexeme → List ℕ → Table → Type 0
BeginsWith t cs [] rest u = (rest ≡ cs) × (u ≡ t)
BeginsWith t cs (l ∷ ls) rest u = (cs' : List ℕ) × (t' : Table) × (next_token t cs ≡ token l cs' t') × BeginsWith t' cs' ls rest u

-- these are the tokens of a text
abbrev pub HasTokens : Table → List ℕ → List Lexeme → Table → Type 0
HasTokens t cs ls u = (rest : List ℕ) × BeginsWith t cs ls rest u × (next_token u rest ≡ nothing)

-- the first token from the left that is refused, after any others
abbrev pub HasBadToken : Table → List ℕ → PatternOutcome → Table → Type 0
HasBadToken t cs o u = (ls : List Lexeme) × (rest : List ℕ) × BeginsWith t cs ls rest u × (next_token u rest ≡ refused o)
