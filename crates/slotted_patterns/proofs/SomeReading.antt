-- Each text reads in at least one way.
use Rattle.std.proofs.Common.{◌≡◌, ℕ, zero, suc, ◌-◌, ◌<◌, ◌≤◌, false, List, [], ◌∷◌, length, refl, sym, subst, arith}
use Rattle.std.specs.Prelude.{Option, Some, None}
use Rattle.slotted_slots.specs.Syntax.{Element, Lexeme, slot, word, variable, colon_equals, left_paren, right_paren, left_bracket, right_bracket, no_pattern, no_colon_equals, no_right_bracket}
use Rattle.slotted_slots.specs.Table.{Table}
use Rattle.slotted_nodes.specs.Form.{Form}
use Rattle.slotted_patterns.specs.Tree.{PatternTree, pvar, substitution}
use Rattle.slotted_patterns.specs.Outcome.{PatternOutcome}
use Rattle.slotted_patterns.specs.Grammar.{Reading, found, fault, Bracket, joined, one_text, one_slot, one_child, after, node, built, begins_slot_or_end, ReadsPattern, based, ReadsBase, of_variable, alone, bracket, no_operator, no_base, ReadsBracket, end, then_slot, then_child, goes_on, faulty_child, ReadsSubstitutions, no_substitution, substituted, faulty_base, ReadsValue, becomes, no_becomes, faulty_place, ReadsClose, closed, not_closed, faulty_value, whole}
use Rattle.slotted_patterns.specs.Tokens.{Next, nothing, token, refused, next_token, BeginsWith}
use Rattle.slotted_patterns.specs.Parsed.{TokensRead, as_pattern, PatternReads, without_tokens, by_tokens}
use Rattle.slotted_patterns.proofs.Tokenizing.{next_token-shorter, IsEnd}

-- at most n tokens are left
abbrev Leaves : {A : Type 0} → ℕ → Reading A → Type 0
Leaves n (found x rest) = length rest ≤ n
Leaves n (fault f) = Unit {0}

Leaves-weaker : {A : Type 0} (n m : ℕ) (r : Reading A) → n ≤ m → Leaves n r → Leaves m r
Leaves-weaker n m (found x rest) e h = omega arith
Leaves-weaker n m (fault f) e h = tt

Leaves-built : (o : Option Form) (b : Bracket) (ls : List Lexeme) (n : ℕ) → length ls ≤ n → Leaves n (built o b ls)
Leaves-built (Some f) b ls n h = h
Leaves-built None b ls n h = tt

Leaves-after : (a : Bracket) (r : Reading Bracket) (n m : ℕ) → n ≤ m → Leaves n r → Leaves m (after a r)
Leaves-after a (found b rest) n m e h = omega arith
Leaves-after a (fault f) n m e h = tt

-- the tokens of a text, up to their end
Ends : Table → List ℕ → Type 0
Ends t cs = (ls : List Lexeme) × (rest : List ℕ) × (u : Table) × BeginsWith t cs ls rest u × IsEnd (next_token u rest)

ends_from : (t : Table) (cs : List ℕ) → ((u : Table) (rest : List ℕ) → length rest < length cs → Ends u rest) → (x : Next) → next_token t cs ≡ x → Ends t cs
unfolding Ends
ends_from t cs k nothing p = ([], cs, t, (refl, refl), subst IsEnd (sym p) tt)
ends_from t cs k (token l rest u) p =
    let e = k u rest (next_token-shorter t cs l rest u p) in
    (l ∷ e.0, e.1, e.2, (rest, u, p, e.3), e.4)
ends_from t cs k (refused o) p = ([], cs, t, (refl, refl), subst IsEnd (sym p) tt)

some_end : (n : ℕ) (t : Table) (cs : List ℕ) → length cs ≤ n → Ends t cs
some_end zero t cs h = ends_from t cs (λ u rest s. absurd (omega (arith, s, h))) (next_token t cs) refl
some_end (suc n) t cs h = ends_from t cs (λ u rest s. some_end n u rest (omega (arith, s, h))) (next_token t cs) refl

module _ (read : List Element → Option Form) where
  Leaves-node : (a : Bracket) (r : Reading Bracket) (n m : ℕ) → n ≤ m → Leaves n r → Leaves m (node read (after a r))
  Leaves-node a (found b rest) n m e h = Leaves-built (read (joined a b).elements) (joined a b) rest m (omega arith)
  Leaves-node a (fault f) n m e h = tt

  -- a pattern takes one token at least
  SomePattern : List Lexeme → Type 0
  SomePattern ls = (r : Reading PatternTree) × ReadsPattern read ls r × Leaves (length ls - 1) r

  SomeBase : List Lexeme → Type 0
  SomeBase ls = (r : Reading PatternTree) × ReadsBase read ls r × Leaves (length ls - 1) r

  SomeBracket : List Lexeme → Type 0
  SomeBracket ls = (r : Reading Bracket) × ReadsBracket read ls r × Leaves (length ls) r

  -- substitutions with at most n tokens left
  SomeSubstitutions : ℕ → Reading PatternTree → Type 0
  SomeSubstitutions n b = (r : Reading PatternTree) × ReadsSubstitutions read b r × Leaves n r

  -- a base, where each bracket of fewer tokens reads as something
  some_base : (n : ℕ) → ((ls : List Lexeme) → length ls ≤ n → SomeBracket ls) → (ls : List Lexeme) → length ls ≤ suc n → SomeBase ls
  unfolding SomeBase SomeBracket
  some_base n k [] h = (fault (no_pattern []), no_base refl, tt)
  some_base n k (word w ∷ ls) h = (node read (found (one_text w) ls), alone, Leaves-built (read (one_text w).elements) (one_text w) ls (length (word w ∷ ls) - 1) (omega arith))
  some_base n k (variable v ∷ ls) h = (found (pvar v) ls, of_variable, omega arith)
  some_base n k (left_paren ∷ []) h = (fault (no_pattern []), no_operator refl, tt)
  some_base n k (left_paren ∷ word w ∷ ls) h =
      let b = k ls (omega arith) in
      (node read (after (one_text w) b.0), bracket b.1, Leaves-node (one_text w) b.0 (length ls) (length (left_paren ∷ word w ∷ ls) - 1) (omega arith) b.2)
  some_base n k (left_paren ∷ l ∷ ls) h = (fault (no_pattern (l ∷ ls)), no_operator refl, tt)
  some_base n k (l ∷ ls) h = (fault (no_pattern (l ∷ ls)), no_base refl, tt)

  -- what follows `b[x := t`, where substitutions with fewer tokens read as something
  some_close : (n : ℕ) → ((b : PatternTree) (ls : List Lexeme) → length ls ≤ n → SomeSubstitutions (length ls) (found b ls)) → (b x : PatternTree) (t : Reading PatternTree) (m : ℕ) → m ≤ n → Leaves m t → (r : Reading PatternTree) × ReadsClose read b x t r × Leaves m r
  unfolding SomeSubstitutions
  some_close n k b x (fault f) m e h = (fault f, faulty_value, tt)
  some_close n k b x (found t []) m e h = (fault (no_right_bracket []), not_closed refl, tt)
  some_close n k b x (found t (right_bracket ∷ ls)) m e h =
      let s = k (substitution b x t) ls (omega arith) in
      (s.0, closed s.1, Leaves-weaker (length ls) m s.0 (omega arith) s.2)
  some_close n k b x (found t (l ∷ ls)) m e h = (fault (no_right_bracket (l ∷ ls)), not_closed refl, tt)

  -- what follows `b[x`
  some_value : (n : ℕ) → ((ls : List Lexeme) → length ls ≤ n → SomePattern ls) → ((b : PatternTree) (ls : List Lexeme) → length ls ≤ n → SomeSubstitutions (length ls) (found b ls)) → (b : PatternTree) (x : Reading PatternTree) (m : ℕ) → m ≤ n → Leaves m x → (r : Reading PatternTree) × ReadsValue read b x r × Leaves m r
  unfolding SomePattern
  some_value n p k b (fault f) m e h = (fault f, faulty_place, tt)
  some_value n p k b (found x []) m e h = (fault (no_colon_equals []), no_becomes refl, tt)
  some_value n p k b (found x (colon_equals ∷ ls)) m e h =
      let t = p ls (omega arith) in
      let c = some_close n k b x t.0 (length ls) (omega arith) (Leaves-weaker (length ls - 1) (length ls) t.0 (omega arith) t.2) in
      (c.0, becomes t.1 c.1, Leaves-weaker (length ls) m c.0 (omega arith) c.2)
  some_value n p k b (found x (l ∷ ls)) m e h = (fault (no_colon_equals (l ∷ ls)), no_becomes refl, tt)

  -- the substitutions after a base
  some_substitutions_by : (n : ℕ) → ((ls : List Lexeme) → length ls ≤ n → SomePattern ls) → ((b : PatternTree) (ls : List Lexeme) → length ls ≤ n → SomeSubstitutions (length ls) (found b ls)) → (b : PatternTree) (ls : List Lexeme) → length ls ≤ suc n → SomeSubstitutions (length ls) (found b ls)
  unfolding SomePattern SomeSubstitutions
  some_substitutions_by n p k b [] h = (found b [], no_substitution refl, omega arith)
  some_substitutions_by n p k b (left_bracket ∷ ls) h =
      let x = p ls (omega arith) in
      let v = some_value n p k b x.0 (length ls) (omega arith) (Leaves-weaker (length ls - 1) (length ls) x.0 (omega arith) x.2) in
      (v.0, substituted x.1 v.1, Leaves-weaker (length ls) (suc (length ls)) v.0 (omega arith) v.2)
  some_substitutions_by n p k b (l ∷ ls) h = (found b (l ∷ ls), no_substitution refl, omega arith)

  -- a pattern is a base with the substitutions after it
  some_pattern_by : (ls : List Lexeme) → SomeBase ls → ((b : PatternTree) (rest : List Lexeme) → length rest ≤ length ls - 1 → SomeSubstitutions (length rest) (found b rest)) → SomePattern ls
  unfolding SomeBase SomePattern SomeSubstitutions
  some_pattern_by ls (fault f, d, s) k = (fault f, based d faulty_base, tt)
  some_pattern_by ls (found b rest, d, s) k =
      let m = k b rest s in
      (m.0, based d m.1, Leaves-weaker (length rest) (length ls - 1) m.0 s m.2)

  -- a bracket that goes on with a child
  some_child : (n : ℕ) → ((ls : List Lexeme) → length ls ≤ n → SomeBracket ls) → (ls : List Lexeme) → length ls ≤ suc n → 0 < length ls → begins_slot_or_end ls ≡ false → SomePattern ls → SomeBracket ls
  unfolding SomePattern SomeBracket
  some_child n k ls h l e (fault f, d, s) = (fault f, then_child e d faulty_child, tt)
  some_child n k ls h l e (found p rest, d, s) =
      let b = k rest (omega (arith, s)) in
      (after (one_child p) b.0, then_child e d (goes_on b.1), Leaves-after (one_child p) b.0 (length rest) (length ls) (omega (arith, s)) b.2)

  -- a bracket, where each shorter one and each shorter pattern reads as something
  some_bracket_by : (n : ℕ) → ((ls : List Lexeme) → length ls ≤ n → SomeBracket ls) → ((ls : List Lexeme) → length ls ≤ suc n → SomePattern ls) → (ls : List Lexeme) → length ls ≤ suc n → SomeBracket ls
  unfolding SomeBracket
  some_bracket_by n k p [] h = (fault (no_pattern []), then_child refl (based (no_base refl) faulty_base) faulty_child, tt)
  some_bracket_by n k p (right_paren ∷ ls) h = (found (record { elements = []; children = [] }) ls, end, omega arith)
  some_bracket_by n k p (slot s ∷ ls) h =
      let b = k ls (omega arith) in
      (after (one_slot s) b.0, then_slot b.1, Leaves-after (one_slot s) b.0 (length ls) (suc (length ls)) (omega arith) b.2)
  some_bracket_by n k p (l ∷ ls) h = some_child n k (l ∷ ls) h (omega arith) refl (p (l ∷ ls) h)

  -- all of these, where at most n tokens are left
  record SomeReadings (n : ℕ) : Type 0 where
    brackets : (ls : List Lexeme) → length ls ≤ n → SomeBracket ls
    patterns : (ls : List Lexeme) → length ls ≤ n → SomePattern ls
    substitutions : (b : PatternTree) (ls : List Lexeme) → length ls ≤ n → SomeSubstitutions (length ls) (found b ls)

  some_readings : (n : ℕ) → SomeReadings n
  unfolding SomeBracket SomePattern SomeSubstitutions
  some_readings zero = record {
    brackets = λ ls h. none_left ls h;
    patterns = λ ls h. no_pattern_left ls h;
    substitutions = λ b ls h. nothing_left b ls h;
  }
    where
      none_left : (ls : List Lexeme) → length ls ≤ 0 → SomeBracket ls
      none_left [] h = (fault (no_pattern []), then_child refl (based (no_base refl) faulty_base) faulty_child, tt)
      none_left (l ∷ ls) h = absurd (omega (arith, h))

      no_pattern_left : (ls : List Lexeme) → length ls ≤ 0 → SomePattern ls
      no_pattern_left [] h = (fault (no_pattern []), based (no_base refl) faulty_base, tt)
      no_pattern_left (l ∷ ls) h = absurd (omega (arith, h))

      nothing_left : (b : PatternTree) (ls : List Lexeme) → length ls ≤ 0 → SomeSubstitutions (length ls) (found b ls)
      nothing_left b [] h = (found b [], no_substitution refl, omega arith)
      nothing_left b (l ∷ ls) h = absurd (omega (arith, h))
  some_readings (suc n) =
      let less = some_readings n in
      let patterns : (ls : List Lexeme) → length ls ≤ suc n → SomePattern ls = λ ls h. some_pattern_by ls (some_base n less.brackets ls h) (λ b rest e. less.substitutions b rest (omega (arith, e, h))) in
      record {
        brackets = some_bracket_by n less.brackets patterns;
        patterns = patterns;
        substitutions = some_substitutions_by n less.patterns less.substitutions;
      }

  some_outcome : (ls : List Lexeme) → (o : PatternOutcome) × TokensRead read ls o
  unfolding SomePattern
  some_outcome ls = let p = (some_readings (length ls)).patterns ls (omega arith) in (whole p.0, as_pattern p.1)

  pub some_reading : (t : Table) (cs : List ℕ) → (o : PatternOutcome) × (u : Table) × PatternReads read t cs o u
  unfolding Ends
  some_reading t cs =
      let e = some_end (length cs) t cs (omega arith) in
      read_end e.0 e.1 e.2 e.3 (next_token e.2 e.1) refl e.4
    where
      read_end : (ls : List Lexeme) (rest : List ℕ) (u : Table) → BeginsWith t cs ls rest u → (x : Next) → next_token u rest ≡ x → IsEnd x → (o : PatternOutcome) × (u : Table) × PatternReads read t cs o u
      read_end ls rest u b nothing p h = let o = some_outcome ls in (o.0, u, by_tokens (rest, b, p) o.1)
      read_end ls rest u b (token l rest' v) p h = absurd h
      read_end ls rest u b (refused o) p h = (o, u, without_tokens (ls, rest, b, p))
