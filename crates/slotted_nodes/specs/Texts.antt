-- Which texts Rust's readers take as numbers, truth values and characters, and the forms of these payloads.
use Rattle.std.specs.Prelude.{ℕ, suc, ◌^◌, ◌&&◌, Bool, true, false, List, [], ◌∷◌, length, ℤ, pos, negsuc, Option, Some, None, if◌then◌else◌, nat_lt, bytes_eq, codes}
use Rattle.std.specs.Str.{all_ascii_digits, chars}
use Rattle.std.specs.Str.Parse.{digits_value, signed_digits_value, without_leading_plus, without_leading_sign}
use Rattle.slotted_nodes.specs.Form.{Form, plain}

-- one decimal digit or more
abbrev pub is_numeral : List ℕ → Bool
is_numeral ds = nat_lt 0 (length ds) && all_ascii_digits ds

-- the number that a text writes at an unsigned type of k bits: a plus may stand first, then decimal digits
unfoldable pub reads_unsigned : ℕ → List ℕ → Option ℕ
reads_unsigned k bs =
    if is_numeral (without_leading_plus bs) && nat_lt (digits_value 10 (without_leading_plus bs)) (2 ^ k)
    then Some (digits_value 10 (without_leading_plus bs)) else None

-- whether a signed type with k bits beside its sign holds the number
abbrev pub fits_beside_sign : ℕ → ℤ → Bool
fits_beside_sign k (pos n) = nat_lt n (2 ^ k)
fits_beside_sign k (negsuc n) = nat_lt n (2 ^ k)

-- the number that a text writes at such a type: a plus or a minus may stand first
unfoldable pub reads_signed : ℕ → List ℕ → Option ℤ
reads_signed k bs =
    if is_numeral (without_leading_sign bs) && fits_beside_sign k (signed_digits_value 10 bs)
    then Some (signed_digits_value 10 bs) else None

-- the truth value that a text names
abbrev pub reads_bool : List ℕ → Option Bool
reads_bool bs = if bytes_eq bs (codes "true") then Some true else (if bytes_eq bs (codes "false") then Some false else None)

-- the text of a truth value
abbrev pub bool_text : Bool → List ℕ
bool_text b = if b then codes "true" else codes "false"

-- the only character of a text
abbrev pub only_char : List ℕ → Option ℕ
only_char (c ∷ []) = Some c
only_char _ = None

abbrev pub reads_char : List ℕ → Option ℕ
reads_char bs = only_char (chars bs)

-- the form of a natural number, as of a character
abbrev pub number_form : ℕ → Form
number_form n = plain ((n ∷ []) ∷ [])

-- the form of a signed number: 0 or, for a minus, 1, and then its size
abbrev pub signed_word : ℤ → List ℕ
signed_word (pos n) = 0 ∷ n ∷ []
signed_word (negsuc n) = 1 ∷ suc n ∷ []

abbrev pub signed_form : ℤ → Form
signed_form z = plain (signed_word z ∷ [])

-- the form of a truth value
abbrev pub bool_word : Bool → List ℕ
bool_word false = 0 ∷ []
bool_word true = 1 ∷ []

abbrev pub bool_form : Bool → Form
bool_form b = plain (bool_word b ∷ [])
