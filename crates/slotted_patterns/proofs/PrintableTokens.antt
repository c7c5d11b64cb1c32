-- The tokens of a text can be printed and read again: words are identifiers, names of variables are runs, and slots print
-- as runs that name them.
use Rattle.std.proofs.Common.{◌≡◌, ℕ, zero, suc, ◌+◌, Bool, true, false, not, cond, List, [], ◌∷◌, take, drop, refl, sym, subst, ap, ◌∙◌, arith}
use Rattle.std.specs.Prelude.{is_some, ◌&&◌, ◌||◌, ◌==◌, slice_index, Option, Some, None}
use Rattle.std.specs.List.{prefix_len}
use Rattle.std.specs.Char.{is_whitespace}
use Rattle.std.specs.Str.{encode_utf8_all, IsUtf8}
use Rattle.std.proofs.Math.Utf8.{scalar, scalars}
use Rattle.std.proofs.lemmas.Bool.{and_parts, and_from}
use Rattle.std.proofs.lemmas.List.Sums.{take_while-cons}
use Rattle.std.proofs.lemmas.Str.{chars-encodes}
use Rattle.slotted_slots.specs.Syntax.{Lexeme, slot, word, variable, left_paren, right_paren, left_bracket, right_bracket}
use Rattle.slotted_slots.specs.Table.{Table, NamedOutcome, gives, too_large, no_place, reading_of, named_of, IsTable}
use Rattle.slotted_nodes.specs.Identifier.{are_run_chars, begins_identifier, is_identifier, IsIdentifier}
use Rattle.slotted_patterns.specs.Tokens.{Next, nothing, token, refused, bracket_of, bracket_or, is_of_run, is_colon_equals, run, after_run, after_white_space, variable_token, named_token, slot_token, sign_or_word, token_at, next_token, BeginsWith}
use Rattle.slotted_patterns.proofs.PrintedTokens.{is_of_run-is, is_run, IsRun, no_equals_sign}
use Rattle.slotted_patterns.proofs.PrintedSlots.{Grows, Grows-refl, Grows-trans, IsNamed, IsNamed-more, IsNamed-prints, named_of-grows, PrintsAsRun}

scalars-drop : (n : ℕ) (cs : List ℕ) → scalars cs ≡ true → scalars (drop n cs) ≡ true
scalars-drop zero cs h = h
scalars-drop (suc n) [] h = refl
scalars-drop (suc n) (c ∷ cs) h = scalars-drop n cs (and_parts (scalar c) (scalars cs) h).1

scalars-take : (n : ℕ) (cs : List ℕ) → scalars cs ≡ true → scalars (take n cs) ≡ true
scalars-take zero cs h = refl
scalars-take (suc n) [] h = refl
scalars-take (suc n) (c ∷ cs) h =
    let both = and_parts (scalar c) (scalars cs) h in
    and_from _ _ both.0 (scalars-take n cs both.1)

run-cons : (c : ℕ) (cs : List ℕ) → is_of_run c ≡ true → run (c ∷ cs) ≡ c ∷ run cs
run-cons c cs h = take_while-cons is_of_run c cs ∙ ap (λ b. cond b (c ∷ run cs) []) h

run-empty : (c : ℕ) (cs : List ℕ) → is_of_run c ≡ false → run (c ∷ cs) ≡ []
run-empty c cs h = take_while-cons is_of_run c cs ∙ ap (λ b. cond b (c ∷ run cs) []) h

-- a run has characters of a run alone
run_chars : (cs : List ℕ) → are_run_chars (run cs) ≡ true
run_chars [] = refl
run_chars (c ∷ cs) = by (is_of_run c) refl (run_chars cs)
  where
    by : (b : Bool) → is_of_run c ≡ b → are_run_chars (run cs) ≡ true → are_run_chars (run (c ∷ cs)) ≡ true
    by true h k = ap are_run_chars (run-cons c cs h) ∙ and_from _ _ (sym (is_of_run-is c) ∙ h) k
    by false h k = ap are_run_chars (run-empty c cs h)

-- an `=` at the front of a run is one at the front of the text
equals_sign : (cs : List ℕ) → (slice_index (run cs) 0 == 61) ≡ (slice_index cs 0 == 61)
equals_sign [] = refl
equals_sign (c ∷ cs) = by (is_of_run c) refl
  where
    by : (b : Bool) → is_of_run c ≡ b → (slice_index (run (c ∷ cs)) 0 == 61) ≡ (slice_index (c ∷ cs) 0 == 61)
    by true h = ap (λ ds. slice_index ds 0 == 61) (run-cons c cs h)
    by false h = ap (λ ds. slice_index ds 0 == 61) (run-empty c cs h) ∙ sym (no_equals_sign (c ∷ cs) h)

-- a text of these characters
encoded : (cs : List ℕ) → scalars cs ≡ true → IsUtf8 (encode_utf8_all cs)
encoded cs h = (cs, (h, refl))

encoded_run : (c : ℕ) (cs : List ℕ) → scalars (c ∷ cs) ≡ true → are_run_chars (c ∷ cs) ≡ true → IsRun (encode_utf8_all (c ∷ cs))
encoded_run c cs h r = (encoded (c ∷ cs) h, ap is_run (chars-encodes (c ∷ cs) h) ∙ r)

-- a word at the front of a text
front_word : (c : ℕ) (cs : List ℕ) → scalars (c ∷ cs) ≡ true → is_of_run c ≡ true → is_colon_equals c cs ≡ false → (c == 63) ≡ false → (c == 36) ≡ false → IsIdentifier (encode_utf8_all (run (c ∷ cs)))
front_word c cs h r no_becomes no_variable no_slot =
    let valid = scalars-take (prefix_len is_of_run (c ∷ cs)) (c ∷ cs) h in
    let begins : begins_identifier c (run cs) ≡ true =
    and_from _ _ (ap not no_variable) (and_from _ _ (ap not no_slot) (ap (λ b. not ((c == 58) && b)) (equals_sign cs) ∙ ap not no_becomes)) in
    let all : are_run_chars (c ∷ run cs) ≡ true = ap are_run_chars (sym (run-cons c cs r)) ∙ run_chars (c ∷ cs) in
    (encoded (run (c ∷ cs)) valid, ap is_identifier (chars-encodes (run (c ∷ cs)) valid ∙ run-cons c cs r) ∙ and_from _ _ begins all)

-- what a table after a token knows of it: the slot of a run is named so
abbrev pub IsToken : Table → Lexeme → Type 0
IsToken t (slot s) = (bs : List ℕ) × IsRun bs × IsNamed (reading_of bs) t bs s
IsToken t (word w) = IsIdentifier w
IsToken t (variable v) = IsRun v
IsToken t l = Unit {0}

abbrev Gives : Table → Next → Type 0
Gives t nothing = Unit {0}
Gives t (token l rest u) = IsToken u l × Grows t u × (scalars rest ≡ true)
Gives t (refused o) = Unit {0}

Gives-cond : (t : Table) (b c : Bool) (x y : Next) → c ≡ b → (c ≡ true → Gives t x) → (c ≡ false → Gives t y) → Gives t (cond b x y)
Gives-cond t true c x y e h k = h e
Gives-cond t false c x y e h k = k e

Gives-variable : (t : Table) (name rest : List ℕ) → scalars name ≡ true → are_run_chars name ≡ true → scalars rest ≡ true → Gives t (variable_token t name rest)
Gives-variable t [] rest h r k = tt
Gives-variable t (c ∷ cs) rest h r k = (encoded_run c cs h r, Grows-refl t, k)

Gives-named : (t : Table) (bs : List ℕ) (o : NamedOutcome) → named_of t bs ≡ o → (rest : List ℕ) → IsRun bs → scalars rest ≡ true → Gives t (named_token o rest)
Gives-named t bs (gives s u) e rest r k = let both = named_of-grows t bs s u e in ((bs, r, both.1), both.0, k)
Gives-named t bs too_large e rest r k = tt
Gives-named t bs no_place e rest r k = tt

Gives-slot : (t : Table) (name rest : List ℕ) → scalars name ≡ true → are_run_chars name ≡ true → scalars rest ≡ true → Gives t (slot_token t name rest)
Gives-slot t [] rest h r k = tt
Gives-slot t (c ∷ cs) rest h r k = Gives-named t (encode_utf8_all (c ∷ cs)) (named_of t (encode_utf8_all (c ∷ cs))) refl rest (encoded_run c cs h r) k

Gives-sign_or_word : (t : Table) (c : ℕ) (cs : List ℕ) → scalars (c ∷ cs) ≡ true → is_of_run c ≡ true → Gives t (sign_or_word t c cs)
unfolding sign_or_word
Gives-sign_or_word t c cs h r =
    let tail = (and_parts (scalar c) (scalars cs) h).1 in
    let n = prefix_len is_of_run cs in
    let m = prefix_len is_of_run (c ∷ cs) in
    Gives-cond t (is_colon_equals c cs) _ _ _ refl (λ _. (tt, Grows-refl t, scalars-drop 1 cs tail)) (λ no_becomes.
    Gives-cond t (c == 63) _ _ _ refl (λ _. Gives-variable t (run cs) (after_run cs) (scalars-take n cs tail) (run_chars cs) (scalars-drop n cs tail)) (λ no_variable.
    Gives-cond t (c == 36) _ _ _ refl (λ _. Gives-slot t (run cs) (after_run cs) (scalars-take n cs tail) (run_chars cs) (scalars-drop n cs tail)) (λ no_slot.
    (front_word c cs h r no_becomes no_variable no_slot, Grows-refl t, scalars-drop m (c ∷ cs) h))))

-- a bracket has no slot and no text
abbrev IsSign : Option Lexeme → Type 0
IsSign None = Unit {0}
IsSign (Some l) = (t : Table) → IsToken t l

IsSign-cond : (b : Bool) (l : Lexeme) (o : Option Lexeme) → ((t : Table) → IsToken t l) → IsSign o → IsSign (cond b (Some l) o)
IsSign-cond true l o h k = h
IsSign-cond false l o h k = k

bracket_sign : (c : ℕ) → IsSign (bracket_of c)
bracket_sign c =
    IsSign-cond (c == 40) left_paren _ (λ _. tt)
    (IsSign-cond (c == 41) right_paren _ (λ _. tt)
    (IsSign-cond (c == 91) left_bracket _ (λ _. tt)
    (IsSign-cond (c == 93) right_bracket None (λ _. tt) tt)))

Gives-bracket_or : (o : Option Lexeme) (t : Table) (c : ℕ) (cs : List ℕ) → IsSign o → scalars (c ∷ cs) ≡ true → not (is_some o) ≡ is_of_run c → Gives t (bracket_or o t c cs)
Gives-bracket_or (Some l) t c cs s h p = (s t, Grows-refl t, (and_parts (scalar c) (scalars cs) h).1)
Gives-bracket_or None t c cs s h p = Gives-sign_or_word t c cs h (sym p)

Gives-skipping : (b : Bool) (t : Table) (c : ℕ) (cs : List ℕ) → is_whitespace c ≡ b → scalars (c ∷ cs) ≡ true → Gives t (token_at t (after_white_space cs)) → Gives t (token_at t (drop (cond b (1 + prefix_len is_whitespace cs) 0) (c ∷ cs)))
Gives-skipping true t c cs p h k =
    let one_more : suc (prefix_len is_whitespace cs) ≡ 1 + prefix_len is_whitespace cs = omega arith in
    subst (λ n. Gives t (token_at t (drop n (c ∷ cs)))) one_more k
Gives-skipping false t c cs p h k = Gives-bracket_or (bracket_of c) t c cs (bracket_sign c) h (ap (λ b. not (b || is_some (bracket_of c))) (sym p))

Gives-token_at : (t : Table) (cs : List ℕ) → scalars cs ≡ true → Gives t (token_at t (after_white_space cs))
Gives-token_at t [] h = tt
Gives-token_at t (c ∷ cs) h = Gives-skipping (is_whitespace c) t c cs refl h (Gives-token_at t cs (and_parts (scalar c) (scalars cs) h).1)

next_token-gives : (t : Table) (cs : List ℕ) → scalars cs ≡ true → Gives t (next_token t cs)
unfolding next_token
next_token-gives t cs h = Gives-token_at t cs h

-- a token that can be printed over a table, and read again
abbrev pub IsPrintable : Table → Lexeme → Type 0
IsPrintable t (slot s) = PrintsAsRun t s
IsPrintable t (word w) = IsIdentifier w
IsPrintable t (variable v) = IsRun v
IsPrintable t l = Unit {0}

abbrev pub ArePrintable : Table → List Lexeme → Type 0
ArePrintable t [] = Unit {0}
ArePrintable t (l ∷ ls) = IsPrintable t l × ArePrintable t ls

IsToken-prints : (t u : Table) (l : Lexeme) → IsTable u → Grows t u → IsToken t l → IsPrintable u l
IsToken-prints t u (slot s) sound g h = IsNamed-prints (reading_of h.0) u h.0 s sound h.1 (IsNamed-more (reading_of h.0) t u h.0 s g h.2)
IsToken-prints t u (word w) sound g h = h
IsToken-prints t u (variable v) sound g h = h
IsToken-prints t u l sound g h = tt

-- the tokens at the front of a text can be printed over the table that they leave
pub BeginsWith-prints : (t : Table) (cs : List ℕ) (ls : List Lexeme) (rest : List ℕ) (u : Table) → IsTable u → scalars cs ≡ true → BeginsWith t cs ls rest u → Grows t u × ArePrintable u ls
BeginsWith-prints t cs [] rest u sound h b = (subst (Grows t) (sym b.1) (Grows-refl t), tt)
BeginsWith-prints t cs (l ∷ ls) rest u sound h b =
    let first : IsToken b.1 l × Grows t b.1 × (scalars b.0 ≡ true) = subst (Gives t) b.2 (next_token-gives t cs h) in
    let more = BeginsWith-prints b.1 b.0 ls rest u sound first.2 b.3 in
    (Grows-trans t b.1 u first.1 more.0, (IsToken-prints b.1 u l sound more.0 first.0, more.1))
