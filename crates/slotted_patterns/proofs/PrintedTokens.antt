-- The first token of a text that is put together: a run ends where no character of one follows.
use Rattle.std.proofs.Common.{◌≡◌, ℕ, suc, ◌+◌, ◌<◌, Bool, true, false, not, cond, List, [], ◌∷◌, ◌++◌, length, take, drop, refl, sym, subst, ap, ◌∙◌, arith, lit<, zero, inl, inr}
use Rattle.std.specs.Prelude.{Option, Some, None, is_some, ◌||◌, ◌&&◌, ◌==◌, slice_index}
use Rattle.std.specs.List.{prefix_len}
use Rattle.std.specs.Char.{is_whitespace}
use Rattle.std.specs.Str.{encode_utf8_all, chars, IsUtf8, IsAscii}
use Rattle.std.proofs.Math.Seq.{take-append_seam, drop-append_seam}
use Rattle.std.proofs.lemmas.Bool.{and_parts, cases_Bool, not-true, eqb-true}
use Rattle.std.proofs.lemmas.Str.{chars-append, encodes-chars, chars-IsAscii, chars-nil, IsUtf8-from_ascii}
use Rattle.slotted_lists.proofs.Booleans.{not_or-true as neither}
use Rattle.slotted_slots.specs.Syntax.{Lexeme, slot, word, variable, colon_equals, left_paren, right_paren, left_bracket, right_bracket}
use Rattle.slotted_slots.specs.Table.{Table, gives, named_of}
use Rattle.slotted_nodes.specs.Identifier.{is_run_char, are_run_chars, begins_identifier, is_identifier, IsIdentifier}
use Rattle.slotted_patterns.specs.Tokens.{token, bracket_of, bracket_or, is_of_run, is_colon_equals, run, after_run, variable_token, named_token, slot_token, sign_or_word, token_at, next_token, HasTokens}

-- a test of one of four characters
some_of_four : (a b c d : Bool) (k l m n : Lexeme) → is_some (cond a (Some k) (cond b (Some l) (cond c (Some m) (cond d (Some n) None)))) ≡ (a || (b || (c || d)))
some_of_four true b c d k l m n = refl
some_of_four false true c d k l m n = refl
some_of_four false false true d k l m n = refl
some_of_four false false false true k l m n = refl
some_of_four false false false false k l m n = refl

-- both say what a character of a run is
pub is_of_run-is : (c : ℕ) → is_of_run c ≡ is_run_char c
is_of_run-is c = ap (λ b. not (is_whitespace c || b)) (some_of_four (c == 40) (c == 41) (c == 91) (c == 93) left_paren right_paren left_bracket right_bracket)

-- the text goes on with no character of a run
abbrev pub EndsRun : List ℕ → Type 0
EndsRun [] = Unit {0}
EndsRun (c ∷ cs) = is_of_run c ≡ false

no_prefix : (cs : List ℕ) → EndsRun cs → prefix_len is_of_run cs ≡ 0
no_prefix [] h = refl
no_prefix (c ∷ cs) h = ap (λ b. cond b (1 + prefix_len is_of_run cs) 0) h

run_length : (cs tail : List ℕ) → are_run_chars cs ≡ true → EndsRun tail → prefix_len is_of_run (cs ++ tail) ≡ length cs
run_length [] tail h e = no_prefix tail e
run_length (c ∷ cs) tail h e =
    let both = and_parts (is_run_char c) (are_run_chars cs) h in
    let rest = run_length cs tail both.1 e in
    ap (λ b. cond b (1 + prefix_len is_of_run (cs ++ tail)) 0) (is_of_run-is c ∙ both.0) ∙ omega (arith, rest)

pub run-append : (cs tail : List ℕ) → are_run_chars cs ≡ true → EndsRun tail → run (cs ++ tail) ≡ cs
run-append cs tail h e = ap (λ n. take n (cs ++ tail)) (run_length cs tail h e) ∙ take-append_seam cs tail

pub after_run-append : (cs tail : List ℕ) → are_run_chars cs ≡ true → EndsRun tail → after_run (cs ++ tail) ≡ tail
after_run-append cs tail h e = ap (λ n. drop n (cs ++ tail)) (run_length cs tail h e) ∙ drop-append_seam cs tail

no_bracket_or : (o : Option Lexeme) (t : Table) (c : ℕ) (cs : List ℕ) → is_some o ≡ false → bracket_or o t c cs ≡ sign_or_word t c cs
no_bracket_or None t c cs h = refl
no_bracket_or (Some l) t c cs h = absurd (cc)

-- a character of a run begins a word, a sign or a run after one
pub next_token-run : (t : Table) (c : ℕ) (cs : List ℕ) → is_of_run c ≡ true → next_token t (c ∷ cs) ≡ sign_or_word t c cs
unfolding next_token
next_token-run t c cs h =
    let both = neither (is_whitespace c) (is_some (bracket_of c)) h in
    ap (λ b. token_at t (drop (cond b (1 + prefix_len is_whitespace cs) 0) (c ∷ cs))) both.0
    ∙ no_bracket_or (bracket_of c) t c cs both.1

-- a word
pub sign_or_word-word : (t : Table) (c : ℕ) (cs : List ℕ) → is_colon_equals c cs ≡ false → (c == 63) ≡ false → (c == 36) ≡ false → sign_or_word t c cs ≡ token (word (encode_utf8_all (run (c ∷ cs)))) (after_run (c ∷ cs)) t
unfolding sign_or_word
sign_or_word-word t c cs no_becomes no_variable no_slot =
    ap (λ b. cond b (token colon_equals (drop 1 cs) t) (cond (c == 63) (variable_token t (run cs) (after_run cs)) (cond (c == 36) (slot_token t (run cs) (after_run cs)) (token (word (encode_utf8_all (run (c ∷ cs)))) (after_run (c ∷ cs)) t)))) no_becomes
    ∙ (ap (λ b. cond b (variable_token t (run cs) (after_run cs)) (cond (c == 36) (slot_token t (run cs) (after_run cs)) (token (word (encode_utf8_all (run (c ∷ cs)))) (after_run (c ∷ cs)) t))) no_variable
    ∙ ap (λ b. cond b (slot_token t (run cs) (after_run cs)) (token (word (encode_utf8_all (run (c ∷ cs)))) (after_run (c ∷ cs)) t)) no_slot)

and_false : (b : Bool) → (b && false) ≡ false
and_false true = refl
and_false false = refl

-- `:=` stands at the front only if both characters do
pub no_equals_sign : (tail : List ℕ) → EndsRun tail → (slice_index tail 0 == 61) ≡ false
no_equals_sign [] h = refl
no_equals_sign (c ∷ cs) h = elim (cases_Bool (c == 61)) [
  | inl same ↦ absurd (let wrong : is_of_run 61 ≡ false = subst (λ x. is_of_run x ≡ false) (eqb-true c 61 same) h in cc)
  | inr other ↦ other
]

begins_nothing_else : (c : ℕ) (cs tail : List ℕ) → begins_identifier c cs ≡ true → EndsRun tail → (is_colon_equals c (cs ++ tail) ≡ false) × ((c == 63) ≡ false) × ((c == 36) ≡ false)
begins_nothing_else c [] tail h e =
    let first = and_parts _ _ h in
    let second = and_parts _ _ first.1 in
    (ap (λ b. (c == 58) && b) (no_equals_sign tail e) ∙ and_false (c == 58), not-true _ first.0, not-true _ second.0)
begins_nothing_else c (d ∷ cs) tail h e =
    let first = and_parts _ _ h in
    let second = and_parts _ _ first.1 in
    (not-true _ second.1, not-true _ first.0, not-true _ second.0)

-- one token is put before others
pub one_more_token : (t : Table) (cs rest : List ℕ) (l : Lexeme) (ls : List Lexeme) → next_token t cs ≡ token l rest t → HasTokens t rest ls t → HasTokens t cs (l ∷ ls) t
one_more_token t cs rest l ls e h = (h.0, (rest, t, e, h.1), h.2)

word_first : (t : Table) (cs tail : List ℕ) → is_identifier cs ≡ true → EndsRun tail → next_token t (cs ++ tail) ≡ token (word (encode_utf8_all cs)) tail t
word_first t [] tail h e = absurd (cc)
word_first t (c ∷ cs) tail h e =
    let both = and_parts (begins_identifier c cs) (are_run_chars (c ∷ cs)) h in
    let front = and_parts (is_run_char c) (are_run_chars cs) both.1 in
    let other = begins_nothing_else c cs tail both.0 e in
    next_token-run t c (cs ++ tail) (is_of_run-is c ∙ front.0)
    ∙ (sign_or_word-word t c (cs ++ tail) other.0 other.1 other.2
    ∙ (λ i. token (word (encode_utf8_all (run-append (c ∷ cs) tail both.1 e i))) (after_run-append (c ∷ cs) tail both.1 e i) t))

-- a run that is not empty
abbrev pub is_run : List ℕ → Bool
is_run [] = false
is_run (c ∷ cs) = are_run_chars (c ∷ cs)

abbrev pub IsRun : List ℕ → Type 0
IsRun bs = IsUtf8 bs × (is_run (chars bs) ≡ true)

variable_first : (t : Table) (cs tail : List ℕ) → is_run cs ≡ true → EndsRun tail → next_token t (63 ∷ (cs ++ tail)) ≡ token (variable (encode_utf8_all cs)) tail t
unfolding sign_or_word
variable_first t [] tail h e = absurd (cc)
variable_first t (c ∷ cs) tail h e =
    next_token-run t 63 ((c ∷ cs) ++ tail) refl
    ∙ (λ i. variable_token t (run-append (c ∷ cs) tail h e i) (after_run-append (c ∷ cs) tail h e i))

slot_first : (t : Table) (s : ℕ) (cs tail : List ℕ) → is_run cs ≡ true → named_of t (encode_utf8_all cs) ≡ gives s t → EndsRun tail → next_token t (36 ∷ (cs ++ tail)) ≡ token (slot s) tail t
unfolding sign_or_word
slot_first t s [] tail h n e = absurd (cc)
slot_first t s (c ∷ cs) tail h n e =
    next_token-run t 36 ((c ∷ cs) ++ tail) refl
    ∙ ((λ i. slot_token t (run-append (c ∷ cs) tail h e i) (after_run-append (c ∷ cs) tail h e i)) ∙ ap (λ o. named_token o tail) n)

becomes_first : (t : Table) (cs : List ℕ) → next_token t (58 ∷ 61 ∷ cs) ≡ token colon_equals cs t
unfolding sign_or_word
becomes_first t cs = next_token-run t 58 (61 ∷ cs) refl

bracket_first : (t : Table) (c : ℕ) (l : Lexeme) (cs : List ℕ) → is_whitespace c ≡ false → bracket_of c ≡ Some l → next_token t (c ∷ cs) ≡ token l cs t
unfolding next_token
bracket_first t c l cs no_space is =
    ap (λ b. token_at t (drop (cond b (1 + prefix_len is_whitespace cs) 0) (c ∷ cs))) no_space
    ∙ ap (λ o. bracket_or o t c cs) is

space_first : (t : Table) (cs : List ℕ) → next_token t (32 ∷ cs) ≡ next_token t cs
unfolding next_token
space_first t cs =
    let one_more : 1 + prefix_len is_whitespace cs ≡ suc (prefix_len is_whitespace cs) = omega arith in
    ap (λ n. token_at t (drop n (32 ∷ cs))) one_more

skipped : (t : Table) (cs : List ℕ) (ls : List Lexeme) → HasTokens t cs ls t → HasTokens t (32 ∷ cs) ls t
skipped t cs [] h = (32 ∷ cs, (refl, refl), space_first t cs ∙ (ap (next_token t) (sym h.1.0) ∙ h.2))
skipped t cs (l ∷ ls) h = (h.0, (h.1.0, h.1.1, space_first t cs ∙ h.1.2, h.1.3), h.2)

-- the tokens of a text, which leave the table as it is
abbrev pub TextHas : Table → List ℕ → List Lexeme → Type 0
TextHas t bs ls = HasTokens t (chars bs) ls t

one_ascii : (c : ℕ) → c < 128 → IsAscii (c ∷ [])
one_ascii c h zero = h
one_ascii c h (suc i) = lit< tt

pub chars-cons : (c : ℕ) (bs : List ℕ) → c < 128 → chars (c ∷ bs) ≡ c ∷ chars bs
chars-cons c bs h =
    let ascii = one_ascii c h in
    chars-append (c ∷ []) bs (IsUtf8-from_ascii (c ∷ []) ascii) ∙ ap (λ cs. cs ++ chars bs) (chars-IsAscii (c ∷ []) ascii)

-- an ASCII character that is none of a run ends one
pub ends_run : (c : ℕ) (bs : List ℕ) → c < 128 → is_of_run c ≡ false → EndsRun (chars (c ∷ bs))
ends_run c bs small h = subst EndsRun (sym (chars-cons c bs small)) h

pub ends_run-nil : EndsRun (chars [])
ends_run-nil = subst EndsRun (sym chars-nil) tt

-- texts, token by token
pub text_bracket : (t : Table) (c : ℕ) (l : Lexeme) (bs : List ℕ) (ls : List Lexeme) → c < 128 → is_whitespace c ≡ false → bracket_of c ≡ Some l → TextHas t bs ls → TextHas t (c ∷ bs) (l ∷ ls)
text_bracket t c l bs ls small no_space is h =
    subst (λ cs. HasTokens t cs (l ∷ ls) t) (sym (chars-cons c bs small))
    (one_more_token t (c ∷ chars bs) (chars bs) l ls (bracket_first t c l (chars bs) no_space is) h)

pub text_space : (t : Table) (bs : List ℕ) (ls : List Lexeme) → TextHas t bs ls → TextHas t (32 ∷ bs) ls
text_space t bs ls h = subst (λ cs. HasTokens t cs ls t) (sym (chars-cons 32 bs (lit< tt))) (skipped t (chars bs) ls h)

pub text_becomes : (t : Table) (bs : List ℕ) (ls : List Lexeme) → TextHas t bs ls → TextHas t (58 ∷ 61 ∷ bs) (colon_equals ∷ ls)
text_becomes t bs ls h =
    subst (λ cs. HasTokens t cs (colon_equals ∷ ls) t) (sym (chars-cons 58 (61 ∷ bs) (lit< tt) ∙ ap (λ cs. 58 ∷ cs) (chars-cons 61 bs (lit< tt))))
    (one_more_token t (58 ∷ 61 ∷ chars bs) (chars bs) colon_equals ls (becomes_first t (chars bs)) h)

pub text_word : (t : Table) (w bs : List ℕ) (ls : List Lexeme) → IsIdentifier w → EndsRun (chars bs) → TextHas t bs ls → TextHas t (w ++ bs) (word w ∷ ls)
text_word t w bs ls i e h =
    subst (λ cs. HasTokens t cs (word w ∷ ls) t) (sym (chars-append w bs i.0))
    (one_more_token t (chars w ++ chars bs) (chars bs) (word w) ls
    (word_first t (chars w) (chars bs) i.1 e ∙ ap (λ b. token (word b) (chars bs) t) (encodes-chars w i.0)) h)

pub text_variable : (t : Table) (v bs : List ℕ) (ls : List Lexeme) → IsRun v → EndsRun (chars bs) → TextHas t bs ls → TextHas t (63 ∷ (v ++ bs)) (variable v ∷ ls)
text_variable t v bs ls i e h =
    subst (λ cs. HasTokens t cs (variable v ∷ ls) t) (sym (chars-cons 63 (v ++ bs) (lit< tt) ∙ ap (λ cs. 63 ∷ cs) (chars-append v bs i.0)))
    (one_more_token t (63 ∷ (chars v ++ chars bs)) (chars bs) (variable v) ls
    (variable_first t (chars v) (chars bs) i.1 e ∙ ap (λ b. token (variable b) (chars bs) t) (encodes-chars v i.0)) h)

pub text_slot : (t : Table) (s : ℕ) (n bs : List ℕ) (ls : List Lexeme) → IsRun n → named_of t n ≡ gives s t → EndsRun (chars bs) → TextHas t bs ls → TextHas t (36 ∷ (n ++ bs)) (slot s ∷ ls)
text_slot t s n bs ls i named e h =
    subst (λ cs. HasTokens t cs (slot s ∷ ls) t) (sym (chars-cons 36 (n ++ bs) (lit< tt) ∙ ap (λ cs. 36 ∷ cs) (chars-append n bs i.0)))
    (one_more_token t (36 ∷ (chars n ++ chars bs)) (chars bs) (slot s) ls
    (slot_first t s (chars n) (chars bs) i.1 (ap (named_of t) (encodes-chars n i.0) ∙ named) e) h)

-- no token is left in an empty text
pub text_nil : (t : Table) → TextHas t [] []
unfolding next_token
text_nil t = subst (λ cs. HasTokens t cs [] t) (sym chars-nil) ([], (refl, refl), refl)
