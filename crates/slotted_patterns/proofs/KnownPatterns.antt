-- A text that reads as a pattern leaves a table that knows the names of its nodes: a node that is read has no slots but
-- those of its elements.
use Rattle.std.proofs.Common.{ℕ, List, [], ◌∷◌, ◌++◌, refl, sym, subst, ap, ◌∙◌, inl, inr}
use Rattle.std.specs.Prelude.{IsTrue, Option, Some, None, IfSome, IfOk, Result, Ok, Err, ◌==◌, ◌||◌}
use Rattle.std.proofs.Math.Bool.{or-true}
use Rattle.std.proofs.lemmas.Bool.{or_cases, eq-eqb, eqb-true}
use Rattle.slotted_slots.specs.Maps.{is_among}
use Rattle.slotted_slots.specs.Syntax.{Element, Lexeme}
use Rattle.slotted_slots.specs.Table.{Table, is_known}
use Rattle.slotted_slots.specs.declared.error.Error.{Error}
use Rattle.slotted_nodes.specs.Form.{Form}
use Rattle.slotted_nodes.specs.ReadFrom.{IsReadFrom, slots_of, slots_of-append}
use Rattle.slotted_patterns.specs.Tree.{PatternTree, row_of}
use Rattle.slotted_patterns.specs.View.{tree_of}
use Rattle.slotted_patterns.specs.Known.{AreKnown, HasKnownNames, HaveKnownNames}
use Rattle.slotted_patterns.specs.Outcome.{PatternOutcome, parsed, Answers}
use Rattle.slotted_patterns.specs.Grammar.{Reading, found, fault, Bracket, built, joined, one_text, one_slot, one_child, after, node, ReadsPattern, based, ReadsBase, of_variable, alone, bracket, no_operator, no_base, ReadsBracket, end, then_slot, then_child, ReadsOnAfter, goes_on, faulty_child, ReadsSubstitutions, no_substitution, substituted, faulty_base, ReadsValue, becomes, no_becomes, faulty_place, ReadsClose, closed, not_closed, faulty_value, whole}
use Rattle.slotted_patterns.specs.Parsed.{TokensRead, as_pattern, PatternReads, without_tokens, by_tokens}
use Rattle.slotted_patterns.specs.declared.pattern.Pattern.{Pattern}
use Rattle.slotted_patterns.proofs.KnownTokens.{AreKnownTokens, IsNoTerm, Learns, next_token-learns, BeginsWith-known}

module _ (table : Table) where
  AreKnown-append : (xs ys : List ℕ) → AreKnown table xs → AreKnown table ys → AreKnown table (xs ++ ys)
  AreKnown-append [] ys h k = k
  AreKnown-append (x ∷ xs) ys h k = (h.0, AreKnown-append xs ys h.1 k)

  AreKnown-among : (x : ℕ) (xs : List ℕ) → IsTrue (is_among x xs) → AreKnown table xs → IsTrue (is_known table x)
  AreKnown-among x [] m h = absurd (cc)
  AreKnown-among x (y ∷ xs) m h = elim (or_cases (y == x) (is_among x xs) m) [
    | inl e ↦ subst (λ z. IsTrue (is_known table z)) (eqb-true y x e) h.0
    | inr k ↦ AreKnown-among x xs k h.1
  ]

  AreKnown-subset : (xs ys : List ℕ) → ((x : ℕ) → IsTrue (is_among x xs) → IsTrue (is_among x ys)) → AreKnown table ys → AreKnown table xs
  AreKnown-subset [] ys f h = tt
  AreKnown-subset (x ∷ xs) ys f h = (
    AreKnown-among x ys (f x (ap (λ b. b || is_among x xs) (eq-eqb x x refl))) h,
    AreKnown-subset xs ys (λ z k. f z (ap (λ b. (x == z) || b) k ∙ or-true (x == z))) h,
  )

  HaveKnownNames-append : (ps qs : List PatternTree) → HaveKnownNames table (row_of ps) → HaveKnownNames table (row_of qs) → HaveKnownNames table (row_of (ps ++ qs))
  HaveKnownNames-append [] qs h k = k
  HaveKnownNames-append (p ∷ ps) qs h k = (h.0, HaveKnownNames-append ps qs h.1 k)

  -- the part of a bracket that was read
  record IsKnownBracket (b : Bracket) : Type 0 where
    slots : AreKnown table (slots_of b.elements)
    children : HaveKnownNames table (row_of b.children)

  joined_known : (a b : Bracket) → IsKnownBracket a → IsKnownBracket b → IsKnownBracket (joined a b)
  joined_known a b h k = record {
    slots = subst (AreKnown table) (sym (slots_of-append a.elements b.elements)) (AreKnown-append (slots_of a.elements) (slots_of b.elements) h.slots k.slots);
    children = HaveKnownNames-append a.children b.children h.children k.children;
  }

  -- what was read, and the tokens after it, have known slots
  abbrev IsKnownReading : Reading PatternTree → Type 0
  IsKnownReading (found p rest) = HasKnownNames table p × AreKnownTokens table rest
  IsKnownReading (fault f) = Unit {0}

  abbrev IsKnownPart : Reading Bracket → Type 0
  IsKnownPart (found b rest) = IsKnownBracket b × AreKnownTokens table rest
  IsKnownPart (fault f) = Unit {0}

  after_known : (a : Bracket) (r : Reading Bracket) → IsKnownBracket a → IsKnownPart r → IsKnownPart (after a r)
  after_known a (found b rest) h k = (joined_known a b h k.0, k.1)
  after_known a (fault f) h k = tt

  built_known : (o : Option Form) (b : Bracket) (rest : List Lexeme) → IfSome o (IsReadFrom b.elements) → IsKnownBracket b → AreKnownTokens table rest → IsKnownReading (built o b rest)
  built_known None b rest made h k = tt
  built_known (Some f) b rest made h k = ((AreKnown-subset f.names (slots_of b.elements) made.slots h.slots, h.children), k)

  -- a pattern was read, and the table knows its names
  abbrev pub IsKnownOutcome : PatternOutcome → Type 0
  IsKnownOutcome (parsed p) = HasKnownNames table p
  IsKnownOutcome o = Unit {0}

  no_pattern_known : (o : PatternOutcome) → IsNoTerm o → IsKnownOutcome o
  no_pattern_known (parsed p) h = absurd h
  no_pattern_known o h = tt

  whole_known : (r : Reading PatternTree) → IsKnownReading r → IsKnownOutcome (whole r)
  whole_known (found p []) h = h.0
  whole_known (found p (l ∷ ls)) h = tt
  whole_known (fault f) h = tt

  module _ (read : List Element → Option Form) (faithful : (es : List Element) → IfSome (read es) (IsReadFrom es)) where
    node_known : (r : Reading Bracket) → IsKnownPart r → IsKnownReading (node read r)
    node_known (found b rest) h = built_known (read b.elements) b rest (faithful b.elements) h.0 h.1
    node_known (fault f) h = tt

    mutual
      pattern_known : {ls : List Lexeme} {r : Reading PatternTree} → ReadsPattern read ls r → AreKnownTokens table ls → IsKnownReading r
      pattern_known (based d e) k = substitutions_known e (base_known d k)

      base_known : {ls : List Lexeme} {r : Reading PatternTree} → ReadsBase read ls r → AreKnownTokens table ls → IsKnownReading r
      base_known of_variable k = (tt, k.1)
      base_known (alone {w = w} {ls = ls}) k = node_known (found (one_text w) ls) (record { slots = tt; children = tt }, k.1)
      base_known (bracket {w = w} {r = r} d) k = node_known (after (one_text w) r) (after_known (one_text w) r (record { slots = tt; children = tt }) (bracket_known d k.1.1))
      base_known (no_operator e) k = tt
      base_known (no_base e) k = tt

      bracket_known : {ls : List Lexeme} {r : Reading Bracket} → ReadsBracket read ls r → AreKnownTokens table ls → IsKnownPart r
      bracket_known end k = (record { slots = tt; children = tt }, k.1)
      bracket_known (then_slot {s = s} {r = r} d) k = after_known (one_slot s) r (record { slots = (k.0, tt); children = tt }) (bracket_known d k.1)
      bracket_known (then_child e d f) k = rest_known f (pattern_known d k)

      rest_known : {p : Reading PatternTree} {r : Reading Bracket} → ReadsOnAfter read p r → IsKnownReading p → IsKnownPart r
      rest_known (goes_on {p = p} {r = r} d) k = after_known (one_child p) r (record { slots = tt; children = (k.0, tt) }) (bracket_known d k.1)
      rest_known faulty_child k = tt

      substitutions_known : {b r : Reading PatternTree} → ReadsSubstitutions read b r → IsKnownReading b → IsKnownReading r
      substitutions_known (no_substitution e) k = k
      substitutions_known (substituted d e) k = value_known e k.0 (pattern_known d k.1.1)
      substitutions_known faulty_base k = tt

      value_known : {b : PatternTree} {x r : Reading PatternTree} → ReadsValue read b x r → HasKnownNames table b → IsKnownReading x → IsKnownReading r
      value_known (becomes d e) h k = close_known e h k.0 (pattern_known d k.1.1)
      value_known (no_becomes e) h k = tt
      value_known faulty_place h k = tt

      close_known : {b x : PatternTree} {t r : Reading PatternTree} → ReadsClose read b x t r → HasKnownNames table b → HasKnownNames table x → IsKnownReading t → IsKnownReading r
      close_known (closed d) h j k = substitutions_known d ((h, j, k.0), k.1.1)
      close_known (not_closed e) h j k = tt
      close_known faulty_value h j k = tt

    tokens_known : {ls : List Lexeme} {o : PatternOutcome} → TokensRead read ls o → AreKnownTokens table ls → IsKnownOutcome o
    tokens_known (as_pattern {r = r} d) k = whole_known r (pattern_known d k)

-- the names of a text's pattern are known to the table that the text leaves
pub text_known : (read : List Element → Option Form) → ((es : List Element) → IfSome (read es) (IsReadFrom es)) → (t : Table) (cs : List ℕ) (o : PatternOutcome) (u : Table) → PatternReads read t cs o u → IsKnownOutcome u o
text_known read faithful t cs o u (without_tokens h) = no_pattern_known u o (subst (Learns u) h.3 (next_token-learns u h.1))
text_known read faithful t cs o u (by_tokens {ls = ls} h d) = tokens_known u read faithful d (BeginsWith-known t cs ls h.0 u h.1).1

-- the same for the answer of a call that reads a text
pub answer_known : {L : Type 0} (form : L → Form) (read : List Element → Option Form) → ((es : List Element) → IfSome (read es) (IsReadFrom es)) → (t : Table) (cs : List ℕ) (u : Table) (r : Result (Pattern L) Error) → Answers (tree_of form) (λ o. PatternReads read t cs o u) r → IfOk r (λ p. HasKnownNames u (tree_of form p))
answer_known form read faithful t cs u (Ok p) h = text_known read faithful t cs (parsed (tree_of form p)) u h
answer_known form read faithful t cs u (Err e) h = tt
