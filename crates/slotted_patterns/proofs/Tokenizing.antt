-- One token after another: each is shorter than what was left, and one more token may be read at the end.
use Rattle.std.proofs.Common.{◌≡◌, ℕ, suc, ◌+◌, ◌<◌, Bool, true, false, not, cond, List, [], ◌∷◌, ◌++◌, length, drop, refl, sym, subst, ap, ◌∙◌, arith, length-drop}
use Rattle.std.specs.Prelude.{Option, Some, None, is_some, map, ◌||◌, ◌==◌}
use Rattle.std.specs.List.{prefix_len}
use Rattle.std.specs.Char.{is_whitespace}
use Rattle.std.specs.Str.{encode_utf8_all}
use Rattle.std.proofs.lemmas.List.{map_push}
use Rattle.slotted_slots.specs.Syntax.{Lexeme}
use Rattle.slotted_patterns.specs.LentTokens.{lexeme}
use Rattle.slotted_patterns.specs.declared.tokens.LentToken.{LentToken}
use Rattle.slotted_slots.specs.Table.{Table, NamedOutcome, gives, too_large, no_place, named_of}
use Rattle.slotted_patterns.specs.Tokens.{Next, nothing, token, refused, bracket_of, bracket_or, is_of_run, is_colon_equals, run, after_run, after_white_space, variable_token, named_token, slot_token, sign_or_word, token_at, next_token, BeginsWith}

-- what follows the token is shorter than n
abbrev pub IsShort : ℕ → Next → Type 0
IsShort n nothing = Unit {0}
IsShort n (token l rest t) = length rest < n
IsShort n (refused o) = Unit {0}

IsShort-weaker : (n : ℕ) (x : Next) → IsShort n x → IsShort (suc n) x
IsShort-weaker n nothing h = tt
IsShort-weaker n (token l rest t) h = omega arith
IsShort-weaker n (refused o) h = tt

IsShort-cond : (n : ℕ) (b : Bool) (x y : Next) → IsShort n x → IsShort n y → IsShort n (cond b x y)
IsShort-cond n true x y h k = h
IsShort-cond n false x y h k = k

drop_shorter : (n : ℕ) (cs : List ℕ) → length (drop n cs) < suc (length cs)
drop_shorter n cs = omega (arith, length-drop n cs)

IsShort-variable : (t : Table) (name rest : List ℕ) (n : ℕ) → length rest < n → IsShort n (variable_token t name rest)
IsShort-variable t [] rest n h = tt
IsShort-variable t (c ∷ cs) rest n h = h

IsShort-named : (o : NamedOutcome) (rest : List ℕ) (n : ℕ) → length rest < n → IsShort n (named_token o rest)
IsShort-named (gives s t) rest n h = h
IsShort-named too_large rest n h = tt
IsShort-named no_place rest n h = tt

IsShort-slot : (t : Table) (name rest : List ℕ) (n : ℕ) → length rest < n → IsShort n (slot_token t name rest)
IsShort-slot t [] rest n h = tt
IsShort-slot t (c ∷ cs) rest n h = IsShort-named (named_of t (encode_utf8_all (c ∷ cs))) rest n h

-- a run that begins with one of its characters is not empty
after_run-shorter : (c : ℕ) (cs : List ℕ) → is_of_run c ≡ true → length (after_run (c ∷ cs)) < suc (length cs)
after_run-shorter c cs p =
    let e = ap (λ b. length (drop (cond b (1 + prefix_len is_of_run cs) 0) (c ∷ cs))) p in
    omega (arith, e, length-drop (1 + prefix_len is_of_run cs) (c ∷ cs))

IsShort-sign_or_word : (t : Table) (c : ℕ) (cs : List ℕ) → is_of_run c ≡ true → IsShort (suc (length cs)) (sign_or_word t c cs)
unfolding sign_or_word
IsShort-sign_or_word t c cs p =
    IsShort-cond (suc (length cs)) (is_colon_equals c cs) _ _ (drop_shorter 1 cs)
    (IsShort-cond (suc (length cs)) (c == 63) _ _ (IsShort-variable t (run cs) (after_run cs) (suc (length cs)) (drop_shorter (prefix_len is_of_run cs) cs))
    (IsShort-cond (suc (length cs)) (c == 36) _ _ (IsShort-slot t (run cs) (after_run cs) (suc (length cs)) (drop_shorter (prefix_len is_of_run cs) cs)) (after_run-shorter c cs p)))

IsShort-bracket_or : (o : Option Lexeme) (t : Table) (c : ℕ) (cs : List ℕ) → not (is_some o) ≡ is_of_run c → IsShort (suc (length cs)) (bracket_or o t c cs)
IsShort-bracket_or (Some l) t c cs p = omega arith
IsShort-bracket_or None t c cs p = IsShort-sign_or_word t c cs (sym p)

IsShort-skipping : (b : Bool) (t : Table) (c : ℕ) (cs : List ℕ) → is_whitespace c ≡ b → IsShort (length cs) (token_at t (after_white_space cs)) → IsShort (suc (length cs)) (token_at t (drop (cond b (1 + prefix_len is_whitespace cs) 0) (c ∷ cs)))
IsShort-skipping true t c cs p h =
    let one_more : suc (prefix_len is_whitespace cs) ≡ 1 + prefix_len is_whitespace cs = omega arith in
    subst (λ n. IsShort (suc (length cs)) (token_at t (drop n (c ∷ cs)))) one_more (IsShort-weaker (length cs) (token_at t (after_white_space cs)) h)
IsShort-skipping false t c cs p h = IsShort-bracket_or (bracket_of c) t c cs (ap (λ b. not (b || is_some (bracket_of c))) (sym p))

IsShort-token_at : (t : Table) (cs : List ℕ) → IsShort (length cs) (token_at t (after_white_space cs))
IsShort-token_at t [] = tt
IsShort-token_at t (c ∷ cs) = IsShort-skipping (is_whitespace c) t c cs refl (IsShort-token_at t cs)

-- what follows a token is shorter than the text
pub next_token-shorter : (t : Table) (cs : List ℕ) (l : Lexeme) (rest : List ℕ) (u : Table) → next_token t cs ≡ token l rest u → length rest < length cs
unfolding next_token
next_token-shorter t cs l rest u p = subst (IsShort (length cs)) p (IsShort-token_at t cs)

-- one more token at the end
pub BeginsWith-push : (t : Table) (cs : List ℕ) (ls : List Lexeme) (rest : List ℕ) (u : Table) (l : Lexeme) (after : List ℕ) (v : Table) → BeginsWith t cs ls rest u → next_token u rest ≡ token l after v → BeginsWith t cs (ls ++ l ∷ []) after v
BeginsWith-push t cs [] rest u l after v h e = (after, v, ap (λ x. next_token t x) (sym h.0) ∙ (ap (λ x. next_token x rest) (sym h.1) ∙ e), (refl, refl))
BeginsWith-push t cs (m ∷ ms) rest u l after v h e = (h.0, h.1, h.2, BeginsWith-push h.1 h.0 ms rest u l after v h.3 e)

-- one more token was pushed
pub BeginsWith-pushed : (t : Table) (cs : List ℕ) (tokens pushed : List LentToken) (rest : List ℕ) (u : Table) (x : LentToken) (after : List ℕ) (v : Table) → BeginsWith t cs (map lexeme tokens) rest u → next_token u rest ≡ token (lexeme x) after v → pushed ≡ tokens ++ x ∷ [] → BeginsWith t cs (map lexeme pushed) after v
BeginsWith-pushed t cs tokens pushed rest u x after v h e p =
    subst (λ ls. BeginsWith t cs ls after v) (sym (ap (map lexeme) p ∙ map_push lexeme tokens x)) (BeginsWith-push t cs (map lexeme tokens) rest u (lexeme x) after v h e)

-- what comes after the tokens: nothing more, or a refusal
abbrev pub IsEnd : Next → Type 0
IsEnd nothing = Unit {0}
IsEnd (token l rest t) = ⊥
IsEnd (refused o) = Unit {0}
