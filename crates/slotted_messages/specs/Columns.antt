-- Where tokens and words begin in a text, in characters from 1.
--     begins b c            whether a token begins with a character, by what stands in front of it
--     token_columns bs      the columns at which the tokens of a text begin
--     word_columns bs       those at which words begin: tokens that are neither variables, slots, brackets nor `:=`
use Rattle.std.specs.Prelude.{ℕ, ◌+◌, ◌-◌, is_some, Bool, true, false, not, ◌&&◌, ◌||◌, ◌==◌, if◌then◌else◌, List, [], ◌∷◌}
use Rattle.std.specs.Str.{chars}
use Rattle.slotted_patterns.specs.Tokens.{bracket_of, is_of_run, is_colon_equals}
use Rattle.slotted_messages.specs.declared.columns.Before.{Before}
use Rattle.slotted_messages.specs.declared.columns.Before.TheVariants.{Free, Colon, Run}

abbrev pub is_bracket : ℕ → Bool
is_bracket c = is_some (bracket_of c)

abbrev pub is_free : Before → Bool
is_free Free = true
is_free Colon = false
is_free Run = false

abbrev pub begins : Before → ℕ → Bool
begins b c = is_bracket c || (is_of_run c && is_free b)

-- what stands in front of the next character, if this one is of a run
abbrev pub behind_of_run : Before → ℕ → Before
behind_of_run Free c = if c == 58 then Colon else Run
behind_of_run Colon c = if c == 61 then Free else Run
behind_of_run Run c = Run

-- what stands in front of the next character
abbrev pub behind : Before → ℕ → Before
behind b c = if is_of_run c then behind_of_run b c else Free

-- the columns at which that begins of which a test tells, in characters of which the first is at column n. The test is told what stands
-- in front of a character, the character, and what follows it
abbrev pub columns_of : (Before → ℕ → List ℕ → Bool) → Before → ℕ → List ℕ → List ℕ
columns_of test b n [] = []
columns_of test b n (c ∷ cs) =
    if test b c cs then n ∷ columns_of test (behind b c) (n + 1) cs else columns_of test (behind b c) (n + 1) cs

abbrev pub begins_token : Before → ℕ → List ℕ → Bool
begins_token b c cs = begins b c

abbrev pub columns_from : Before → ℕ → List ℕ → List ℕ
columns_from b n cs = columns_of begins_token b n cs

unfoldable pub token_columns : List ℕ → List ℕ
token_columns bs = columns_from Free 1 (chars bs)

-- a word begins with a character: neither a variable, a slot, a bracket nor `:=`
abbrev pub begins_word : Before → ℕ → List ℕ → Bool
begins_word b c cs = is_free b && is_of_run c && not (c == 63) && not (c == 36) && not (is_colon_equals c cs)

abbrev pub words_from : Before → ℕ → List ℕ → List ℕ
words_from b n cs = columns_of begins_word b n cs

unfoldable pub word_columns : List ℕ → List ℕ
word_columns bs = words_from Free 1 (chars bs)

-- a character shows that a word began: at it, or at the `:` in front of it
abbrev pub shows_word : Before → ℕ → Bool
shows_word Free c = is_of_run c && not (c == 63) && not (c == 36) && not (c == 58)
shows_word Colon c = not (c == 61)
shows_word Run c = false

-- where the word began that a character at this column shows
abbrev pub shown_at : Before → ℕ → ℕ
shown_at Free n = n
shown_at Colon n = n - 1
shown_at Run n = n
