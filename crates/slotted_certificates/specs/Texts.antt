-- The texts of terms and patterns, by the words of their operators, slots and values.
--     is_word bs        bs is a word: not empty, without blanks, tabs, line ends and brackets, and with no `$` or `?` in front
--     text_of w ts      the text of the parts ts, with a blank in front of each but a closing bracket; none where a word lacks
--     Adds o old new    new is old with the text o behind it
use Rattle.std.specs.Prelude.{◌≡◌, ℕ, Bool, true, false, not, ◌&&◌, ◌||◌, ◌==◌, if◌then◌else◌, List, [], ◌∷◌, ◌++◌, Option, Some, None, map, slice_get, string_bytes, codes}
use Rattle.slotted_certificates.specs.declared.spelling.Spelling.{Spelling}
use Rattle.slotted_certificates.specs.declared.tokens.Token.{Token}
use Rattle.slotted_certificates.specs.declared.tokens.Token.TheVariants.{Leaf, Bracket, Close, Slot, Value}

-- what may stand in a word: no blank, tab, line feed, carriage return, round or square bracket
abbrev pub is_of_word : ℕ → Bool
is_of_word c = not (c == 32 || c == 9 || c == 10 || c == 13 || c == 40 || c == 41 || c == 91 || c == 93)

abbrev pub are_of_word : List ℕ → Bool
are_of_word [] = true
are_of_word (c ∷ cs) = is_of_word c && are_of_word cs

abbrev pub is_word : List ℕ → Bool
is_word [] = false
is_word (c ∷ cs) = not (c == 36 || c == 63) && are_of_word (c ∷ cs)

-- the words by their numbers: those of operators, of slots, and the texts of values
pub record Words : Type 0 where
  pub operators : List (List ℕ)
  pub slots : List (List ℕ)
  pub values : List (List ℕ)

abbrev pub words : List (List ℕ) → List (List ℕ) → List (List ℕ) → Words
words operators slots values = record { operators = operators; slots = slots; values = values }

-- a word behind a text
abbrev pub spelled : List ℕ → Option (List ℕ) → Option (List ℕ)
spelled before None = None
spelled before (Some w) = if is_word w then Some (before ++ w) else None

-- one text behind another
abbrev pub together : Option (List ℕ) → Option (List ℕ) → Option (List ℕ)
together None o = None
together (Some bs) None = None
together (Some bs) (Some cs) = Some (bs ++ cs)

-- a part without the blank in front
abbrev pub bare_text : Words → Token → Option (List ℕ)
bare_text w (Leaf n) = spelled [] (slice_get w.operators n)
bare_text w (Bracket n) = spelled (codes "(") (slice_get w.operators n)
bare_text w Close = Some (codes ")")
bare_text w (Slot x) = spelled (codes "$") (slice_get w.slots x)
bare_text w (Value v) = slice_get w.values v

abbrev pub blank_before : Token → List ℕ
blank_before (Leaf n) = codes " "
blank_before (Bracket n) = codes " "
blank_before Close = []
blank_before (Slot x) = codes " "
blank_before (Value v) = codes " "

abbrev pub token_text : Words → Token → Option (List ℕ)
token_text w t = together (Some (blank_before t)) (bare_text w t)

abbrev pub text_of : Words → List Token → Option (List ℕ)
text_of w [] = Some []
text_of w (t ∷ ts) = together (token_text w t) (text_of w ts)

-- the same without the blank in front of the first part
abbrev pub bare_text_of : Words → List Token → Option (List ℕ)
bare_text_of w [] = None
bare_text_of w (t ∷ ts) = together (bare_text w t) (text_of w ts)

pub record Adds (o : Option (List ℕ)) (old new : List ℕ) : Type 0 where
  pub bytes : List ℕ
  pub is : o ≡ Some bytes
  pub made : new ≡ old ++ bytes

-- the text of the first part is added, and the parts us are behind that
pub record AddsFirst (w : Words) (ts us : List Token) (old new : List ℕ) : Type 0 where
  pub token : Token
  pub is : ts ≡ token ∷ us
  pub adds : Adds (token_text w token) old new

-- the words that code has
abbrev pub words_of : Spelling → Words
words_of s = words (map string_bytes s.operators.now) (map string_bytes s.slots.now) (map string_bytes s.values.now)
