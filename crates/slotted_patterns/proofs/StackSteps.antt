-- How each part of a pattern is read inside open parts.
use Rattle.std.proofs.Common.{◌≡◌, ℕ, false, List, [], ◌∷◌, refl, subst, sym, append_assoc}
use Rattle.std.specs.Prelude.{Option}
use Rattle.std.proofs.lemmas.List.{append-nil}
use Rattle.slotted_slots.specs.Syntax.{Lexeme, word, variable, slot, colon_equals, left_paren, right_paren, left_bracket, right_bracket, no_pattern, no_colon_equals, no_right_bracket, Element, Fault}
use Rattle.slotted_nodes.specs.Form.{Form}
use Rattle.slotted_patterns.specs.Tree.{PatternTree, pvar, substitution}
use Rattle.slotted_patterns.specs.Grammar.{Reading, found, fault, Bracket, joined, one_text, one_slot, one_child, after, node, begins_with_word, begins_pattern, begins_slot_or_end, begins_with_left_bracket, begins_with_colon_equals, begins_with_right_bracket, ReadsPattern, based, ReadsBase, of_variable, alone, bracket, no_operator, no_base, end, then_slot, then_child, goes_on, faulty_child, no_substitution, substituted, faulty_base, becomes, no_becomes, faulty_place, closed, not_closed, faulty_value}
use Rattle.slotted_patterns.specs.Stack.{Part, in_bracket, before_place, before_value, Resumes, Continues, ReadsOpen}

-- two fronts, one after the other
after-after : (a b : Bracket) (r : Reading Bracket) → after a (after b r) ≡ after (joined a b) r
after-after a b (found c ls) = λ i. found (record { elements = sym (append_assoc a.elements b.elements c.elements) i; children = sym (append_assoc a.children b.children c.children) i }) ls
after-after a b (fault f) = refl

-- a bracket before its end
after-end : (b : Bracket) (ls : List Lexeme) → after b (found (record { elements = []; children = [] }) ls) ≡ found b ls
after-end b ls = λ i. found (record { elements = append-nil b.elements i; children = append-nil b.children i }) ls

module _ (read : List Element → Option Form) where
  -- a fault inside is the fault of all
  pub Resumes-fault : (parts : List Part) (f : Fault) → Resumes read parts (fault f) (fault f)
  Resumes-fault [] f = refl
  Resumes-fault (in_bracket b ∷ parts) f = (fault f, faulty_child, fault f, faulty_base, Resumes-fault parts f)
  Resumes-fault (before_place b ∷ parts) f = (fault f, faulty_place, Resumes-fault parts f)
  Resumes-fault (before_value b x ∷ parts) f = (fault f, faulty_value, Resumes-fault parts f)

  pub Continues-fault : (parts : List Part) (f : Fault) → Continues read parts (fault f) (fault f)
  Continues-fault parts f = (fault f, faulty_base, Resumes-fault parts f)

  -- a pattern inside open parts
  pub reads_pattern : (parts : List Part) (ls : List Lexeme) (p r : Reading PatternTree) → begins_slot_or_end ls ≡ false → ReadsPattern read ls p → Resumes read parts p r → ReadsOpen read parts ls r
  reads_pattern [] ls p r e d h = (p, d, h)
  reads_pattern (in_bracket b ∷ parts) ls p r e d h = (h.0, then_child e d h.1, (h.2, h.3, h.4))
  reads_pattern (before_place b ∷ parts) ls p r e d h = (p, d, h)
  reads_pattern (before_value b x ∷ parts) ls p r e d h = (p, d, h)

  -- a base inside open parts
  pub reads_base : (parts : List Part) (ls : List Lexeme) (b r : Reading PatternTree) → begins_slot_or_end ls ≡ false → ReadsBase read ls b → Continues read parts b r → ReadsOpen read parts ls r
  reads_base parts ls b r e d h = reads_pattern parts ls h.0 r e (based d h.1) h.2

  -- a word, and a variable
  pub reads_word : (parts : List Part) (w : List ℕ) (ls : List Lexeme) (r : Reading PatternTree) → Continues read parts (node read (found (one_text w) ls)) r → ReadsOpen read parts (word w ∷ ls) r
  reads_word parts w ls r h = reads_base parts (word w ∷ ls) _ r refl alone h

  pub reads_variable : (parts : List Part) (v : List ℕ) (ls : List Lexeme) (r : Reading PatternTree) → Continues read parts (found (pvar v) ls) r → ReadsOpen read parts (variable v ∷ ls) r
  reads_variable parts v ls r h = reads_base parts (variable v ∷ ls) _ r refl of_variable h

  -- one more bracket is open
  pub reads_begin : (parts : List Part) (w : List ℕ) (ls : List Lexeme) (r : Reading PatternTree) → ReadsOpen read (in_bracket (one_text w) ∷ parts) ls r → ReadsOpen read parts (left_paren ∷ word w ∷ ls) r
  reads_begin parts w ls r h = reads_base parts (left_paren ∷ word w ∷ ls) (node read (after (one_text w) h.0)) r refl (bracket h.1) h.2

  -- a slot in the innermost bracket
  pub reads_slot : (b : Bracket) (parts : List Part) (s : ℕ) (ls : List Lexeme) (r : Reading PatternTree) → ReadsOpen read (in_bracket (joined b (one_slot s)) ∷ parts) ls r → ReadsOpen read (in_bracket b ∷ parts) (slot s ∷ ls) r
  reads_slot b parts s ls r h = (after (one_slot s) h.0, then_slot h.1, subst (λ x. Continues read parts (node read x) r) (sym (after-after b (one_slot s) h.0)) h.2)

  -- the end of the innermost bracket
  pub reads_end : (b : Bracket) (parts : List Part) (ls : List Lexeme) (r : Reading PatternTree) → Continues read parts (node read (found b ls)) r → ReadsOpen read (in_bracket b ∷ parts) (right_paren ∷ ls) r
  reads_end b parts ls r h = (found (record { elements = []; children = [] }) ls, end, subst (λ x. Continues read parts (node read x) r) (sym (after-end b ls)) h)

  -- where no part of a pattern can be read: in a bracket a slot or its end may stand besides
  pub reads_no_base : (parts : List Part) (ls : List Lexeme) → begins_pattern ls ≡ false → begins_slot_or_end ls ≡ false → ReadsOpen read parts ls (fault (no_pattern ls))
  reads_no_base parts ls e n = reads_base parts ls (fault (no_pattern ls)) (fault (no_pattern ls)) n (no_base e) (Continues-fault parts (no_pattern ls))

  -- a bracket without an operator
  pub reads_no_operator : (parts : List Part) (ls : List Lexeme) → begins_with_word ls ≡ false → ReadsOpen read parts (left_paren ∷ ls) (fault (no_pattern ls))
  reads_no_operator parts ls e = reads_base parts (left_paren ∷ ls) (fault (no_pattern ls)) (fault (no_pattern ls)) refl (no_operator e) (Continues-fault parts (no_pattern ls))

  -- a substitution after a base
  pub reads_left_bracket : (parts : List Part) (b : PatternTree) (ls : List Lexeme) (r : Reading PatternTree) → ReadsOpen read (before_place b ∷ parts) ls r → Continues read parts (found b (left_bracket ∷ ls)) r
  reads_left_bracket parts b ls r h = (h.2.0, substituted h.1 h.2.1, h.2.2)

  -- no substitution after a base: it is a whole pattern
  pub reads_no_bracket : (parts : List Part) (b : PatternTree) (ls : List Lexeme) (r : Reading PatternTree) → begins_with_left_bracket ls ≡ false → Resumes read parts (found b ls) r → Continues read parts (found b ls) r
  reads_no_bracket parts b ls r e h = (found b ls, no_substitution e, h)

  -- a child in the innermost bracket
  pub reads_child : (b : Bracket) (parts : List Part) (p : PatternTree) (ls : List Lexeme) (r : Reading PatternTree) → ReadsOpen read (in_bracket (joined b (one_child p)) ∷ parts) ls r → Resumes read (in_bracket b ∷ parts) (found p ls) r
  reads_child b parts p ls r h =
      let c : Continues read parts (node read (after b (after (one_child p) h.0))) r = subst (λ x. Continues read parts (node read x) r) (sym (after-after b (one_child p) h.0)) h.2 in
      (after (one_child p) h.0, goes_on h.1, c.0, c.1, c.2)

  -- `:=` after `b[x`
  pub reads_colon_equals : (b : PatternTree) (parts : List Part) (x : PatternTree) (ls : List Lexeme) (r : Reading PatternTree) → ReadsOpen read (before_value b x ∷ parts) ls r → Resumes read (before_place b ∷ parts) (found x (colon_equals ∷ ls)) r
  reads_colon_equals b parts x ls r h = (h.2.0, becomes h.1 h.2.1, h.2.2)

  pub reads_no_colon_equals : (b : PatternTree) (parts : List Part) (x : PatternTree) (ls : List Lexeme) → begins_with_colon_equals ls ≡ false → Resumes read (before_place b ∷ parts) (found x ls) (fault (no_colon_equals ls))
  reads_no_colon_equals b parts x ls e = (fault (no_colon_equals ls), no_becomes e, Resumes-fault parts (no_colon_equals ls))

  -- `]` after `b[x := t`
  pub reads_right_bracket : (b x : PatternTree) (parts : List Part) (t : PatternTree) (ls : List Lexeme) (r : Reading PatternTree) → Continues read parts (found (substitution b x t) ls) r → Resumes read (before_value b x ∷ parts) (found t (right_bracket ∷ ls)) r
  reads_right_bracket b x parts t ls r h = (h.0, closed h.1, h.2)

  pub reads_no_right_bracket : (b x : PatternTree) (parts : List Part) (t : PatternTree) (ls : List Lexeme) → begins_with_right_bracket ls ≡ false → Resumes read (before_value b x ∷ parts) (found t ls) (fault (no_right_bracket ls))
  reads_no_right_bracket b x parts t ls e = (fault (no_right_bracket ls), not_closed e, Resumes-fault parts (no_right_bracket ls))
