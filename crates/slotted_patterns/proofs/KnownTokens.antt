-- The table that a text leaves knows each slot among its tokens.
use Rattle.std.proofs.Common.{◌≡◌, ℕ, Bool, true, false, cond, List, [], ◌∷◌, refl, sym, subst}
use Rattle.std.specs.Prelude.{Option, Some, None, IsTrue, ◌==◌}
use Rattle.std.specs.Str.{encode_utf8_all}
use Rattle.slotted_slots.specs.Syntax.{Lexeme, slot, left_paren, right_paren, left_bracket, right_bracket}
use Rattle.slotted_slots.specs.Table.{Table, NamedOutcome, gives, too_large, no_place, named_of, is_known, KnowsMore}
use Rattle.slotted_slots.proofs.NamingLaws.{named_of-learns}
use Rattle.slotted_slots.proofs.TableLaws.{KnowsMore-refl}
use Rattle.slotted_patterns.specs.Outcome.{PatternOutcome, parsed}
use Rattle.slotted_patterns.specs.Tokens.{Next, nothing, token, refused, bracket_or, is_colon_equals, run, after_run, after_white_space, variable_token, named_token, slot_token, sign_or_word, token_at, next_token, BeginsWith}

-- a slot is known, and another token has none
abbrev pub IsKnownToken : Table → Lexeme → Type 0
IsKnownToken t (slot s) = IsTrue (is_known t s)
IsKnownToken t l = Unit {0}

abbrev pub AreKnownTokens : Table → List Lexeme → Type 0
AreKnownTokens t [] = Unit {0}
AreKnownTokens t (l ∷ ls) = IsKnownToken t l × AreKnownTokens t ls

-- no pattern was read
abbrev pub IsNoTerm : PatternOutcome → Type 0
IsNoTerm (parsed u) = ⊥
IsNoTerm o = Unit {0}

-- the table after a token knows its slot, and all that was known before it; a text that is refused is no term
abbrev pub Learns : Table → Next → Type 0
Learns t nothing = Unit {0}
Learns t (token l rest u) = IsKnownToken u l × KnowsMore t u
Learns t (refused o) = IsNoTerm o

Learns-cond : (t : Table) (b : Bool) (x y : Next) → Learns t x → Learns t y → Learns t (cond b x y)
Learns-cond t true x y h k = h
Learns-cond t false x y h k = k

Learns-variable : (t : Table) (name rest : List ℕ) → Learns t (variable_token t name rest)
Learns-variable t [] rest = tt
Learns-variable t (c ∷ cs) rest = (tt, KnowsMore-refl t)

Learns-named : (t : Table) (bs : List ℕ) (o : NamedOutcome) → named_of t bs ≡ o → (rest : List ℕ) → Learns t (named_token o rest)
Learns-named t bs (gives s u) e rest = named_of-learns t bs s u e
Learns-named t bs too_large e rest = tt
Learns-named t bs no_place e rest = tt

Learns-slot : (t : Table) (name rest : List ℕ) → Learns t (slot_token t name rest)
Learns-slot t [] rest = tt
Learns-slot t (c ∷ cs) rest = Learns-named t (encode_utf8_all (c ∷ cs)) (named_of t (encode_utf8_all (c ∷ cs))) refl rest

Learns-sign_or_word : (t : Table) (c : ℕ) (cs : List ℕ) → Learns t (sign_or_word t c cs)
unfolding sign_or_word
Learns-sign_or_word t c cs =
    Learns-cond t (is_colon_equals c cs) _ _ (tt, KnowsMore-refl t)
    (Learns-cond t (c == 63) _ _ (Learns-variable t (run cs) (after_run cs))
    (Learns-cond t (c == 36) _ _ (Learns-slot t (run cs) (after_run cs)) (tt, KnowsMore-refl t)))

Learns-bracket_or : (t : Table) (c : ℕ) (cs : List ℕ) (b : Bool) (l : Lexeme) (o : Option Lexeme) → IsKnownToken t l → Learns t (bracket_or o t c cs) → Learns t (bracket_or (cond b (Some l) o) t c cs)
Learns-bracket_or t c cs true l o k h = (k, KnowsMore-refl t)
Learns-bracket_or t c cs false l o k h = h

Learns-token_at : (t : Table) (cs : List ℕ) → Learns t (token_at t cs)
Learns-token_at t [] = tt
Learns-token_at t (c ∷ cs) =
    Learns-bracket_or t c cs (c == 40) left_paren _ tt
    (Learns-bracket_or t c cs (c == 41) right_paren _ tt
    (Learns-bracket_or t c cs (c == 91) left_bracket _ tt
    (Learns-bracket_or t c cs (c == 93) right_bracket None tt (Learns-sign_or_word t c cs))))

pub next_token-learns : (t : Table) (cs : List ℕ) → Learns t (next_token t cs)
unfolding next_token
next_token-learns t cs = Learns-token_at t (after_white_space cs)

-- what is known stays known
IsKnownToken-more : (t u : Table) (l : Lexeme) → KnowsMore t u → IsKnownToken t l → IsKnownToken u l
IsKnownToken-more t u (slot s) h k = h s k
IsKnownToken-more t u l h k = k

-- the table after the tokens at the front of a text knows their slots
pub BeginsWith-known : (t : Table) (cs : List ℕ) (ls : List Lexeme) (rest : List ℕ) (u : Table) → BeginsWith t cs ls rest u → KnowsMore t u × AreKnownTokens u ls
BeginsWith-known t cs [] rest u h = (subst (KnowsMore t) (sym h.1) (KnowsMore-refl t), tt)
BeginsWith-known t cs (l ∷ ls) rest u h =
    let first : IsKnownToken h.1 l × KnowsMore t h.1 = subst (Learns t) h.2 (next_token-learns t cs) in
    let more = BeginsWith-known h.1 h.0 ls rest u h.3 in
    (λ s k. more.0 s (first.1 s k), (IsKnownToken-more h.1 u l more.0 first.0, more.1))
