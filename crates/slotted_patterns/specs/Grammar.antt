-- The grammar of patterns over their tokens: the pattern that tokens write, or their one fault. A language gives the
-- node, if any, of a list of elements.
use Rattle.std.specs.Prelude.{◌≡◌, ℕ, Bool, true, false, List, [], ◌∷◌, ◌++◌, Option, Some, None}
use Rattle.slotted_slots.specs.Syntax.{Lexeme, slot, word, variable, colon_equals, left_paren, right_paren, left_bracket, right_bracket, Element, text, applied, name, Fault, no_pattern, too_much, no_node, no_colon_equals, no_right_bracket}
use Rattle.slotted_nodes.specs.Form.{Form}
use Rattle.slotted_patterns.specs.Tree.{PatternTree, enode, pvar, substitution, row_of}
use Rattle.slotted_patterns.specs.Outcome.{PatternOutcome, parsed, outside}

-- what was read from the front of the tokens, and the tokens after it; or the fault that was met
pub data Reading (A : Type 0) : Type 0 where
  found : (value : A) (rest : List Lexeme) → Reading A
  fault : (fault : Fault) → Reading A

-- the elements of a bracket, and the child patterns among them
pub record Bracket : Type 0 where
  pub elements : List Element
  pub children : List PatternTree

-- the node that the language has for these elements, if it has one, over these children
abbrev pub built : Option Form → Bracket → List Lexeme → Reading PatternTree
built (Some f) b rest = found (enode f (row_of b.children)) rest
built None b rest = fault (no_node b.elements)

-- a bracket with these elements and children in front
abbrev pub joined : Bracket → Bracket → Bracket
joined a b = record { elements = a.elements ++ b.elements; children = a.children ++ b.children }

-- one text
abbrev pub one_text : List ℕ → Bracket
one_text w = record { elements = text w ∷ []; children = [] }

-- one slot
abbrev pub one_slot : ℕ → Bracket
one_slot s = record { elements = name s ∷ []; children = [] }

-- one child, whose place is held by the null applied id
abbrev pub one_child : PatternTree → Bracket
one_child p = record { elements = applied 0 [] ∷ []; children = p ∷ [] }

-- what follows in a bracket, read with these elements and children in front
abbrev pub after : Bracket → Reading Bracket → Reading Bracket
after a (found b rest) = found (joined a b) rest
after a (fault f) = fault f

-- the node of a bracket that was read
abbrev pub node : (List Element → Option Form) → Reading Bracket → Reading PatternTree
node read (found b rest) = built (read b.elements) b rest
node read (fault f) = fault f

-- the tokens begin with a word
abbrev pub begins_with_word : List Lexeme → Bool
begins_with_word (word w ∷ ls) = true
begins_with_word ls = false

-- the tokens begin as a pattern does
abbrev pub begins_pattern : List Lexeme → Bool
begins_pattern (word w ∷ ls) = true
begins_pattern (variable v ∷ ls) = true
begins_pattern (left_paren ∷ ls) = true
begins_pattern ls = false

-- the tokens go on in a bracket without a child
abbrev pub begins_slot_or_end : List Lexeme → Bool
begins_slot_or_end (slot s ∷ ls) = true
begins_slot_or_end (right_paren ∷ ls) = true
begins_slot_or_end ls = false

-- the tokens begin with `[`, with `:=`, with `]`
abbrev pub begins_with_left_bracket : List Lexeme → Bool
begins_with_left_bracket (left_bracket ∷ ls) = true
begins_with_left_bracket ls = false

abbrev pub begins_with_colon_equals : List Lexeme → Bool
begins_with_colon_equals (colon_equals ∷ ls) = true
begins_with_colon_equals ls = false

abbrev pub begins_with_right_bracket : List Lexeme → Bool
begins_with_right_bracket (right_bracket ∷ ls) = true
begins_with_right_bracket ls = false

mutual
  -- what a pattern at the front of the tokens reads as: a base, and the substitutions after it
  pub data ReadsPattern (read : List Element → Option Form) : List Lexeme → Reading PatternTree → Type 0 where
    based : {ls : List Lexeme} {b r : Reading PatternTree} → ReadsBase read ls b → ReadsSubstitutions read b r → ReadsPattern read ls r

  -- what a base reads as
  pub data ReadsBase (read : List Element → Option Form) : List Lexeme → Reading PatternTree → Type 0 where
    -- a variable is itself
    of_variable : {v : List ℕ} {ls : List Lexeme} → ReadsBase read (variable v ∷ ls) (found (pvar v) ls)
    -- a word alone is the node of the one text
    alone : {w : List ℕ} {ls : List Lexeme} → ReadsBase read (word w ∷ ls) (node read (found (one_text w) ls))
    -- a bracket is the node of its operator's text and of what follows, up to its end
    bracket : {w : List ℕ} {ls : List Lexeme} {r : Reading Bracket} → ReadsBracket read ls r →
        ReadsBase read (left_paren ∷ word w ∷ ls) (node read (after (one_text w) r))
    -- the operator must be a word
    no_operator : {ls : List Lexeme} → begins_with_word ls ≡ false → ReadsBase read (left_paren ∷ ls) (fault (no_pattern ls))
    -- nothing else begins a pattern
    no_base : {ls : List Lexeme} → begins_pattern ls ≡ false → ReadsBase read ls (fault (no_pattern ls))

  -- what the rest of a bracket reads as, up to its end
  pub data ReadsBracket (read : List Element → Option Form) : List Lexeme → Reading Bracket → Type 0 where
    end : {ls : List Lexeme} → ReadsBracket read (right_paren ∷ ls) (found (record { elements = []; children = [] }) ls)
    then_slot : {s : ℕ} {ls : List Lexeme} {r : Reading Bracket} → ReadsBracket read ls r →
        ReadsBracket read (slot s ∷ ls) (after (one_slot s) r)
    then_child : {ls : List Lexeme} {p : Reading PatternTree} {r : Reading Bracket} → begins_slot_or_end ls ≡ false →
        ReadsPattern read ls p → ReadsOnAfter read p r → ReadsBracket read ls r

  -- what a bracket reads as whose next child was read so
  pub data ReadsOnAfter (read : List Element → Option Form) : Reading PatternTree → Reading Bracket → Type 0 where
    goes_on : {p : PatternTree} {ls : List Lexeme} {r : Reading Bracket} → ReadsBracket read ls r →
        ReadsOnAfter read (found p ls) (after (one_child p) r)
    faulty_child : {f : Fault} → ReadsOnAfter read (fault f) (fault f)

  -- what the substitutions after a base that was read so make of it, from the left
  pub data ReadsSubstitutions (read : List Element → Option Form) : Reading PatternTree → Reading PatternTree → Type 0 where
    no_substitution : {b : PatternTree} {ls : List Lexeme} → begins_with_left_bracket ls ≡ false →
        ReadsSubstitutions read (found b ls) (found b ls)
    substituted : {b : PatternTree} {ls : List Lexeme} {x r : Reading PatternTree} → ReadsPattern read ls x →
        ReadsValue read b x r → ReadsSubstitutions read (found b (left_bracket ∷ ls)) r
    faulty_base : {f : Fault} → ReadsSubstitutions read (fault f) (fault f)

  -- what `b[x` reads as, whose x was read so: `:=` and a pattern are due
  pub data ReadsValue (read : List Element → Option Form) : PatternTree → Reading PatternTree → Reading PatternTree → Type 0 where
    becomes : {b x : PatternTree} {ls : List Lexeme} {t r : Reading PatternTree} → ReadsPattern read ls t →
        ReadsClose read b x t r → ReadsValue read b (found x (colon_equals ∷ ls)) r
    no_becomes : {b x : PatternTree} {ls : List Lexeme} → begins_with_colon_equals ls ≡ false →
        ReadsValue read b (found x ls) (fault (no_colon_equals ls))
    faulty_place : {b : PatternTree} {f : Fault} → ReadsValue read b (fault f) (fault f)

  -- what `b[x := t` reads as, whose t was read so: `]` is due, and more substitutions may follow
  pub data ReadsClose (read : List Element → Option Form) : PatternTree → PatternTree → Reading PatternTree →
      Reading PatternTree → Type 0 where
    closed : {b x t : PatternTree} {ls : List Lexeme} {r : Reading PatternTree} →
        ReadsSubstitutions read (found (substitution b x t) ls) r → ReadsClose read b x (found t (right_bracket ∷ ls)) r
    not_closed : {b x t : PatternTree} {ls : List Lexeme} → begins_with_right_bracket ls ≡ false →
        ReadsClose read b x (found t ls) (fault (no_right_bracket ls))
    faulty_value : {b x : PatternTree} {f : Fault} → ReadsClose read b x (fault f) (fault f)

-- tokens are one pattern, with nothing after it
abbrev pub whole : Reading PatternTree → PatternOutcome
whole (found p []) = parsed p
whole (found p (l ∷ ls)) = outside (too_much (l ∷ ls))
whole (fault f) = outside f
