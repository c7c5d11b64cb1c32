-- What tells of tokens and of words in characters fits the tokens that the parser reads.
use Rattle.std.proofs.Common.{◌≡◌, ℕ, suc, ◌+◌, List, [], ◌∷◌, length, sym, ap, ◌∙◌, refl, arith, cond, subst, inl, inr}
use Rattle.std.proofs.lemmas.Bool.{true≢false, cases_eq, ne_eqb}
use Rattle.std.specs.Prelude.{Bool, true, false, not, ◌&&◌, ◌||◌, if◌then◌else◌, ◌==◌, Option, Some, None, is_some, slice_get}
use Rattle.std.specs.Char.{is_whitespace}
use Rattle.std.specs.List.{filter}
use Rattle.std.specs.Str.{chars, encode_utf8_all}
use Rattle.std.proofs.lemmas.Option.{slice_get_past}
use Rattle.slotted_lists.proofs.Booleans.{not_or-true as neither}
use Rattle.slotted_slots.specs.Syntax.{Lexeme, word, left_paren, right_paren, left_bracket, right_bracket}
use Rattle.slotted_slots.specs.Table.{Table, NamedOutcome, gives, too_large, no_place, named_of}
use Rattle.slotted_patterns.specs.Tokens.{Next, nothing, token, refused, bracket_of, bracket_or, is_of_run, is_colon_equals, run, after_run, after_white_space, variable_token, named_token, slot_token, sign_or_word, token_at, next_token}
use Rattle.slotted_messages.specs.Columns.{begins, begins_token, begins_word, columns_from, words_from, token_columns, word_columns}
use Rattle.slotted_messages.specs.Parsed.{is_word, CountsTokens, IsColumnBehind, IsColumnOfWord, IsNonePastWords}
use Rattle.slotted_messages.specs.declared.columns.Before.TheVariants.{Free}
use Rattle.slotted_messages.proofs.ParserTokens.{Fits, BeginsBlack, IsMarked, black, counted, found}

-- white space is no bracket

not_at : (c k : ℕ) → is_whitespace c ≡ true → is_whitespace k ≡ false → (c == k) ≡ false
not_at c k white other = elim (cases_eq c k) [
  | inl same ↦ absurd (true≢false (sym white ∙ (ap is_whitespace same ∙ other)))
  | inr differ ↦ ne_eqb c k differ
]

white_is_no_bracket : (c : ℕ) → is_whitespace c ≡ true → is_some (bracket_of c) ≡ false
white_is_no_bracket c white =
    (λ i. is_some (if not_at c 40 white refl i then Some left_paren else (if not_at c 41 white refl i then Some right_paren else
    (if not_at c 91 white refl i then Some left_bracket else (if not_at c 93 white refl i then Some right_bracket else None)))))

-- a token begins with any character behind nothing that is no white space

begins_black : (c : ℕ) (r : Bool) → is_some (bracket_of c) ≡ r → is_whitespace c ≡ false → begins Free c ≡ true
begins_black c true e white = (λ i. e i || (not (white i || e i) && true))
begins_black c false e white = (λ i. e i || (not (white i || e i) && true))

abbrev each : Lexeme → Bool
each l = true

each-length : (ls : List Lexeme) → length (filter each ls) ≡ length ls
each-length [] = refl
each-length (l ∷ ls) = ap suc (each-length ls)

tokens_fit : Fits begins_token each
tokens_fit = record {
  white = λ c cs e. let r = white_is_no_bracket c e in (λ i. r i || (not (e i || r i) && true));
  inside = λ c cs e. let r = (neither (is_whitespace c) (is_some (bracket_of c)) e).1 in (λ i. r i || (e i && false));
  outside = λ c cs e. (λ i. is_some (bracket_of c) || (e i && false)) ∙ sym (λ i. is_some (bracket_of c) || (e i && true));
  colon = λ c cs. refl;
  first = λ t u c cs rest l white e. begins_black c (is_some (bracket_of c)) refl white;
}

pub parser_counts : (bs : List ℕ) (n : ℕ) → n ≡ length (token_columns bs) → CountsTokens bs n
unfolding token_columns
parser_counts bs n e t u ls h =
    e ∙ (counted begins_token each tokens_fit 1 (1 + length (chars bs)) t u (chars bs) ls h.0 refl h.1 h.2 ∙ each-length ls)

marked_black : (ds : List ℕ) → BeginsBlack ds → IsMarked begins_token each tokens_fit ds
marked_black [] h = tt
marked_black (c ∷ cs) h = begins_black c (is_some (bracket_of c)) refl h

pub parser_begins : (bs : List ℕ) (number : ℕ) (column : Option ℕ) → column ≡ slice_get (token_columns bs) number → IsColumnBehind bs number column
unfolding token_columns
parser_begins bs number column e t u ls rest h many =
    let last : suc (length (chars bs)) ≡ 1 + length (chars bs) = omega arith in
    e ∙ (ap (slice_get (columns_from Free 1 (chars bs))) (many ∙ sym (each-length ls))
    ∙ found begins_token each tokens_fit (chars bs) 1 (1 + length (chars bs)) t u (chars bs) ls rest last refl h (marked_black (after_white_space rest) (black rest)))

-- a word begins with a character behind nothing that the parser reads as the first of one

abbrev NoWord : Option Lexeme → Type 0
NoWord (Some l) = is_word l ≡ false
NoWord None = Unit {0}

NoWord-cond : (b : Bool) (l : Lexeme) (o : Option Lexeme) → is_word l ≡ false → NoWord o → NoWord (cond b (Some l) o)
NoWord-cond true l o h k = h
NoWord-cond false l o h k = k

bracket_is_no_word : (c : ℕ) → NoWord (bracket_of c)
bracket_is_no_word c =
    NoWord-cond (c == 40) left_paren _ refl (NoWord-cond (c == 41) right_paren _ refl
    (NoWord-cond (c == 91) left_bracket _ refl (NoWord-cond (c == 93) right_bracket None refl tt)))

-- this is whether the token that was read is a word
abbrev IsWordTest : Bool → Next → Type 0
IsWordTest m nothing = Unit {0}
IsWordTest m (token l rest u) = m ≡ is_word l
IsWordTest m (refused o) = Unit {0}

IsWordTest-cond : (m b : Bool) (x y : Next) → (b ≡ true → IsWordTest m x) → (b ≡ false → IsWordTest m y) → IsWordTest m (cond b x y)
IsWordTest-cond m true x y h k = h refl
IsWordTest-cond m false x y h k = k refl

variable_test : (m : Bool) (t : Table) (name rest : List ℕ) → m ≡ false → IsWordTest m (variable_token t name rest)
variable_test m t [] rest e = tt
variable_test m t (c ∷ cs) rest e = e

named_test : (m : Bool) (o : NamedOutcome) (rest : List ℕ) → m ≡ false → IsWordTest m (named_token o rest)
named_test m (gives s u) rest e = e
named_test m too_large rest e = tt
named_test m no_place rest e = tt

slot_test : (m : Bool) (t : Table) (name rest : List ℕ) → m ≡ false → IsWordTest m (slot_token t name rest)
slot_test m t [] rest e = tt
slot_test m t (c ∷ cs) rest e = named_test m (named_of t (encode_utf8_all (c ∷ cs))) rest e

and_false : (b : Bool) → (b && false) ≡ false
and_false true = refl
and_false false = refl

sign_test : (t : Table) (c : ℕ) (cs : List ℕ) → is_of_run c ≡ true → IsWordTest (begins_word Free c cs) (sign_or_word t c cs)
unfolding sign_or_word
sign_test t c cs o =
    IsWordTest-cond _ (is_colon_equals c cs) _ _ (λ colon.
    (λ i. is_of_run c && not (c == 63) && not (c == 36) && not (colon i)) ∙ and_false (is_of_run c && not (c == 63) && not (c == 36))) (λ other.
    IsWordTest-cond _ (c == 63) _ _ (λ v. variable_test _ t (run cs) (after_run cs)
    (λ i. o i && not (v i) && not (c == 36) && not (is_colon_equals c cs))) (λ no_variable.
    IsWordTest-cond _ (c == 36) _ _ (λ s. slot_test _ t (run cs) (after_run cs)
    (λ i. o i && not (no_variable i) && not (s i) && not (is_colon_equals c cs))) (λ no_slot.
    (λ i. o i && not (no_variable i) && not (no_slot i) && not (other i)))))

bracket_test : (t : Table) (c : ℕ) (cs : List ℕ) (o : Option Lexeme) → is_whitespace c ≡ false → bracket_of c ≡ o → NoWord o → IsWordTest (begins_word Free c cs) (bracket_or o t c cs)
bracket_test t c cs (Some l) white e none =
    let r : is_some (bracket_of c) ≡ true = ap is_some e in
    (λ i. not (white i || r i) && not (c == 63) && not (c == 36) && not (is_colon_equals c cs)) ∙ sym none
bracket_test t c cs None white e none =
    let r : is_some (bracket_of c) ≡ false = ap is_some e in
    sign_test t c cs (λ i. not (white i || r i))

words_fit : Fits begins_word is_word
words_fit = record {
  white = λ c cs e. (λ i. not (e i || is_some (bracket_of c)) && not (c == 63) && not (c == 36) && not (is_colon_equals c cs));
  inside = λ c cs e. refl;
  outside = λ c cs e. sym (λ i. e i && not (c == 63) && not (c == 36) && not (is_colon_equals c cs));
  colon = λ c cs. refl;
  first = λ t u c cs rest l white e. subst (IsWordTest (begins_word Free c cs)) e (bracket_test t c cs (bracket_of c) white refl (bracket_is_no_word c));
}

marked_word : (u v : Table) (ds after w : List ℕ) → BeginsBlack ds → token_at u ds ≡ token (word w) after v → IsMarked begins_word is_word words_fit ds
marked_word u v [] after w h e = tt
marked_word u v (c ∷ cs) after w h e = words_fit.first u v c cs after (word w) h e

next_is : (u v : Table) (rest after w : List ℕ) → next_token u rest ≡ token (word w) after v → token_at u (after_white_space rest) ≡ token (word w) after v
unfolding next_token
next_is u v rest after w e = e

pub parser_words : (bs : List ℕ) (number : ℕ) (column : Option ℕ) → column ≡ slice_get (word_columns bs) number → IsColumnOfWord bs number column
unfolding word_columns
parser_words bs number column e t u v ls rest after w h next many =
    let last : suc (length (chars bs)) ≡ 1 + length (chars bs) = omega arith in
    e ∙ (ap (slice_get (words_from Free 1 (chars bs))) many
    ∙ found begins_word is_word words_fit (chars bs) 1 (1 + length (chars bs)) t u (chars bs) ls rest last refl h
    (marked_word u v (after_white_space rest) after w (black rest) (next_is u v rest after w next)))

pub parser_past : (bs : List ℕ) (number : ℕ) (column : Option ℕ) → column ≡ slice_get (word_columns bs) number → IsNonePastWords bs number column
unfolding word_columns
parser_past bs number column e t u ls h past =
    let count = counted begins_word is_word words_fit 1 (1 + length (chars bs)) t u (chars bs) ls h.0 refl h.1 h.2 in
    e ∙ slice_get_past (words_from Free 1 (chars bs)) number (omega (arith, count, past))
