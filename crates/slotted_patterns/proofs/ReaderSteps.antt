-- The steps of the reader over its stack.
use Rattle.std.proofs.Common.{◌≡◌, ℕ, false, List, [], ◌∷◌, ◌++◌, length, refl, subst, sym, ap, ◌∙◌, arith}
use Rattle.std.specs.Prelude.{Option, Some, Box, map, String, Result, Ok, Err, IfOk, IfErr}
use Rattle.std.specs.Option.{option_to_list}
use Rattle.std.proofs.lemmas.List.{reverse-append}
use Rattle.slotted_slots.specs.Syntax.{Lexeme, word, variable, slot, colon_equals, left_paren, right_paren, left_bracket, right_bracket, no_pattern, no_colon_equals, no_right_bracket, Element, Fault, lexeme_of}
use Rattle.slotted_slots.specs.declared.error.Error.{Error}
use Rattle.slotted_slots.specs.declared.parse.Token.{Token}
use Rattle.slotted_slots.specs.declared.parse.Token.TheVariants as token
use Rattle.slotted_slots.specs.declared.slot.Slot.{Slot}
use Rattle.std.specs.declared.alloc.Global.{Global}
use Rattle.slotted_nodes.specs.Form.{Form}
use Rattle.slotted_patterns.specs.Tree.{PatternTree, pvar, substitution}
use Rattle.slotted_patterns.specs.View.{tree_of}
use Rattle.slotted_patterns.specs.Outcome.{PatternOutcome, outside, Refuses}
use Rattle.slotted_patterns.specs.Grammar.{Reading, found, fault, joined, one_text, one_slot, one_child, node, begins_with_word, begins_pattern, begins_slot_or_end, begins_with_left_bracket, begins_with_colon_equals, begins_with_right_bracket, ReadsPattern, based, no_base, faulty_base}
use Rattle.slotted_patterns.specs.Stack as stack
use Rattle.slotted_patterns.specs.Stack.{in_bracket, before_place, before_value, IsOutside, Resumes, Continues, ReadsOpen, IsFault}
use Rattle.slotted_patterns.specs.Reader.{bracket_of, part_of, parts_of, ReadsFrom, ReadsAs, IsFaultFrom, ResumesAs, IsFaultAfter, IsFaultOf}
use Rattle.slotted_patterns.specs.declared.pattern.Pattern.{Pattern}
use Rattle.slotted_patterns.specs.declared.grammar.Open.{Open}
use Rattle.slotted_patterns.specs.declared.grammar.Part.{Part}
use Rattle.slotted_patterns.specs.declared.grammar.Part.TheVariants.{Node, Place, Value}
use Rattle.slotted_patterns.specs.declared.grammar.Point.{Point}
use Rattle.slotted_patterns.specs.declared.grammar.Point.TheVariants.{Due, Base, Whole}
use Rattle.slotted_patterns.proofs.Refusals.{Refuses-weaker}
use Rattle.slotted_patterns.proofs.StackSteps.{Resumes-fault, Continues-fault, reads_word, reads_variable, reads_begin, reads_slot, reads_end, reads_no_base, reads_no_operator, reads_left_bracket, reads_no_bracket, reads_child, reads_colon_equals, reads_no_colon_equals, reads_right_bracket, reads_no_right_bracket}

-- a token that begins no part of a pattern
abbrev pub IsOther : Token → Type 0
IsOther (token.Slot s) = ⊥
IsOther (token.Ident w) = ⊥
IsOther (token.PVar v) = ⊥
IsOther token.ColonEquals = Unit {0}
IsOther token.LParen = ⊥
IsOther token.RParen = ⊥
IsOther token.LBracket = Unit {0}
IsOther token.RBracket = Unit {0}

other_begins : (x : Token) (ls : List Lexeme) → IsOther x → (begins_pattern (lexeme_of x ∷ ls) ≡ false) × (begins_slot_or_end (lexeme_of x ∷ ls) ≡ false)
other_begins (token.Slot s) ls h = absurd h
other_begins (token.Ident w) ls h = absurd h
other_begins (token.PVar v) ls h = absurd h
other_begins token.ColonEquals ls h = (refl, refl)
other_begins token.LParen ls h = absurd h
other_begins token.RParen ls h = absurd h
other_begins token.LBracket ls h = (refl, refl)
other_begins token.RBracket ls h = (refl, refl)

pub is_other : (x : Token) → ((s : Slot) → x ≡ token.Slot s → ⊥) → ((w : String Global) → x ≡ token.Ident w → ⊥) → ((v : String Global) → x ≡ token.PVar v → ⊥) → (x ≡ token.LParen → ⊥) → (x ≡ token.RParen → ⊥) → IsOther x
is_other (token.Slot s) a b c d e = a s refl
is_other (token.Ident w) a b c d e = b w refl
is_other (token.PVar v) a b c d e = c v refl
is_other token.ColonEquals a b c d e = tt
is_other token.LParen a b c d e = d refl
is_other token.RParen a b c d e = e refl
is_other token.LBracket a b c d e = tt
is_other token.RBracket a b c d e = tt

module _ {L : Type 0} (form : L → Form) where
  -- a part on the stack is the innermost one
  pub parts_of-pushed : (xs ys : List (Part L)) (x : Part L) → ys ≡ xs ++ x ∷ [] → parts_of form ys ≡ part_of form x ∷ parts_of form xs
  parts_of-pushed xs ys x p = ap (parts_of form) p ∙ ap (map (part_of form)) (reverse-append xs (x ∷ []))

  pub parts_of-popped : (xs ys : List (Part L)) (o : Option (Part L)) (x : Part L) → xs ≡ ys ++ option_to_list o → o ≡ Some x → parts_of form xs ≡ part_of form x ∷ parts_of form ys
  parts_of-popped xs ys o x p q = parts_of-pushed ys xs x (p ∙ ap (λ o. ys ++ option_to_list o) q)

  pub parts_of-none : (xs : List (Part L)) → length xs ≡ 0 → parts_of form xs ≡ []
  parts_of-none [] p = refl
  parts_of-none (x ∷ xs) p = absurd (omega (arith, p))

  pub popped_outside : (xs ys : List (Part L)) (o : Option (Part L)) (x : Part L) → xs ≡ ys ++ option_to_list o → o ≡ Some x → IsOutside (part_of form x ∷ parts_of form ys) → IsOutside (parts_of form xs)
  popped_outside xs ys o x p q h = subst IsOutside (sym (parts_of-popped xs ys o x p q)) h

  module _ (read : List Element → Option Form) where
    -- a fault of a base inside these parts is the fault of all
    abbrev FaultOpen : List stack.Part → List Lexeme → PatternOutcome → Type 0
    FaultOpen parts ls o = (f : Fault) × (o ≡ outside f) × ReadsOpen read parts ls (fault f)

    faulty_base_open : (parts inner : List stack.Part) (ls : List Lexeme) (b : Reading PatternTree) (o : PatternOutcome) → ((r : Reading PatternTree) → Continues read inner b r → ReadsOpen read parts ls r) → IsFault b o → FaultOpen parts ls o
    faulty_base_open parts inner ls (found t rest) o k h = absurd h
    faulty_base_open parts inner ls (fault f) o k h = (f, h, k (fault f) (Continues-fault read inner f))

    -- a slot, and the end, in a bracket
    pub stepped_slot : (st mid st' : List (Part L)) (b b' : Open L) (s : ℕ) (ls : List Lexeme) → parts_of form st ≡ in_bracket (bracket_of form b) ∷ parts_of form mid → bracket_of form b' ≡ joined (bracket_of form b) (one_slot s) → st' ≡ mid ++ Node b' ∷ [] → ReadsAs form read st Due (slot s ∷ ls) st' Due ls
    stepped_slot st mid st' b b' s ls p e k r h =
        subst (λ x. ReadsOpen read x (slot s ∷ ls) r) (sym p)
        (reads_slot read (bracket_of form b) (parts_of form mid) s ls r (subst (λ x. ReadsOpen read x ls r) (parts_of-pushed mid st' (Node b') k ∙ ap (λ x. in_bracket x ∷ parts_of form mid) e) h))

    pub stepped_end : (st mid : List (Part L)) (b : Open L) (p : Pattern L) (ls : List Lexeme) → parts_of form st ≡ in_bracket (bracket_of form b) ∷ parts_of form mid → ((ls : List Lexeme) → node read (found (bracket_of form b) ls) ≡ found (tree_of form p) ls) → ReadsAs form read st Due (right_paren ∷ ls) mid (Base p) ls
    stepped_end st mid b p ls e k r h =
        subst (λ x. ReadsOpen read x (right_paren ∷ ls) r) (sym e)
        (reads_end read (bracket_of form b) (parts_of form mid) ls r (subst (λ x. Continues read (parts_of form mid) x r) (sym (k ls)) h))

    pub refuses_end : (st mid : List (Part L)) (b : Open L) (ls : List Lexeme) (e : Error) → parts_of form st ≡ in_bracket (bracket_of form b) ∷ parts_of form mid → Refuses (λ o. (ls : List Lexeme) → IsFault (node read (found (bracket_of form b) ls)) o) e → Refuses (IsFaultFrom form read st Due (right_paren ∷ ls)) e
    refuses_end st mid b ls e p h =
        subst (λ x. Refuses (FaultOpen x (right_paren ∷ ls)) e) (sym p)
        (Refuses-weaker (λ o. (ls : List Lexeme) → IsFault (node read (found (bracket_of form b) ls)) o) (FaultOpen (in_bracket (bracket_of form b) ∷ parts_of form mid) (right_paren ∷ ls)) e h (λ o q.
        faulty_base_open (in_bracket (bracket_of form b) ∷ parts_of form mid) (parts_of form mid) (right_paren ∷ ls) (node read (found (bracket_of form b) ls)) o (reads_end read (bracket_of form b) (parts_of form mid) ls) (q ls)))

    -- neither may stand elsewhere
    reads_outside : (parts : List stack.Part) (ls : List Lexeme) → IsOutside parts → begins_pattern ls ≡ false → ReadsOpen read parts ls (fault (no_pattern ls))
    reads_outside [] ls h e = (fault (no_pattern ls), based (no_base e) faulty_base, refl)
    reads_outside (in_bracket b ∷ parts) ls h e = absurd h
    reads_outside (before_place b ∷ parts) ls h e = (fault (no_pattern ls), based (no_base e) faulty_base, Resumes-fault read (before_place b ∷ parts) (no_pattern ls))
    reads_outside (before_value b x ∷ parts) ls h e = (fault (no_pattern ls), based (no_base e) faulty_base, Resumes-fault read (before_value b x ∷ parts) (no_pattern ls))

    pub refuses_outside : (st : List (Part L)) (ls : List Lexeme) (e : Error) → IsOutside (parts_of form st) → begins_pattern ls ≡ false → Refuses (λ (o : PatternOutcome). o ≡ outside (no_pattern ls)) e → Refuses (IsFaultFrom form read st Due ls) e
    refuses_outside st ls e h k q = Refuses-weaker (λ (o : PatternOutcome). o ≡ outside (no_pattern ls)) (IsFaultFrom form read st Due ls) e q (λ o p. (no_pattern ls, p, reads_outside (parts_of form st) ls h k))

    -- what begins no base
    pub refuses_no_base : (st : List (Part L)) (ls : List Lexeme) (e : Error) → begins_pattern ls ≡ false → begins_slot_or_end ls ≡ false → Refuses (λ (o : PatternOutcome). o ≡ outside (no_pattern ls)) e → Refuses (IsFaultFrom form read st Due ls) e
    refuses_no_base st ls e h k q = Refuses-weaker (λ (o : PatternOutcome). o ≡ outside (no_pattern ls)) (IsFaultFrom form read st Due ls) e q (λ o p. (no_pattern ls, p, reads_no_base read (parts_of form st) ls h k))

    pub refuses_nothing : (st : List (Part L)) (items rest : List Token) (e : Error) → items ≡ rest → length items ≡ 0 → Refuses (λ (o : PatternOutcome). o ≡ outside (no_pattern (map lexeme_of rest))) e → Refuses (IsFaultFrom form read st Due (map lexeme_of items)) e
    refuses_nothing st [] [] e p n h = refuses_no_base st [] e refl refl h
    refuses_nothing st [] (x ∷ rest) e p n h = absurd (cc)
    refuses_nothing st (x ∷ items) rest e p n h = absurd (omega (arith, n))

    pub refuses_other : (st : List (Part L)) (items rest : List Token) (x : Token) (e : Error) → items ≡ x ∷ rest → IsOther x → Refuses (λ (o : PatternOutcome). o ≡ outside (no_pattern (lexeme_of x ∷ map lexeme_of rest))) e → Refuses (IsFaultFrom form read st Due (map lexeme_of items)) e
    refuses_other st items rest x e p n h =
        let o = other_begins x (map lexeme_of rest) n in
        subst (λ ls. Refuses (IsFaultFrom form read st Due ls) e) (sym (ap (map lexeme_of) p)) (refuses_no_base st (lexeme_of x ∷ map lexeme_of rest) e o.0 o.1 h)

    -- a bracket begins
    pub stepped_begin : (st st' : List (Part L)) (b : Open L) (all ls : List Lexeme) (w : List ℕ) → all ≡ left_paren ∷ word w ∷ ls → bracket_of form b ≡ one_text w → st' ≡ st ++ Node b ∷ [] → ReadsAs form read st Due all st' Due ls
    stepped_begin st st' b all ls w p e k r h =
        subst (λ x. ReadsOpen read (parts_of form st) x r) (sym p)
        (reads_begin read (parts_of form st) w ls r (subst (λ x. ReadsOpen read x ls r) (parts_of-pushed st st' (Node b) k ∙ ap (λ x. in_bracket x ∷ parts_of form st) e) h))

    pub refuses_no_operator : (st : List (Part L)) (all ls : List Lexeme) (e : Error) → all ≡ left_paren ∷ ls → Refuses (λ (o : PatternOutcome). (o ≡ outside (no_pattern ls)) × (begins_with_word ls ≡ false)) e → Refuses (IsFaultFrom form read st Due all) e
    refuses_no_operator st all ls e p h =
        subst (λ x. Refuses (IsFaultFrom form read st Due x) e) (sym p)
        (Refuses-weaker (λ (o : PatternOutcome). (o ≡ outside (no_pattern ls)) × (begins_with_word ls ≡ false)) (IsFaultFrom form read st Due (left_paren ∷ ls)) e h (λ o q. (no_pattern ls, q.0, reads_no_operator read (parts_of form st) ls q.1)))

    -- a word alone, and a variable
    pub stepped_word : (st : List (Part L)) (b : Open L) (p : Pattern L) (all ls : List Lexeme) (w : List ℕ) → all ≡ word w ∷ ls → bracket_of form b ≡ one_text w → ((ls : List Lexeme) → node read (found (bracket_of form b) ls) ≡ found (tree_of form p) ls) → ReadsAs form read st Due all st (Base p) ls
    stepped_word st b p all ls w e q k r h =
        subst (λ x. ReadsOpen read (parts_of form st) x r) (sym e)
        (reads_word read (parts_of form st) w ls r (subst (λ x. Continues read (parts_of form st) x r) (sym (ap (λ x. node read (found x ls)) (sym q) ∙ k ls)) h))

    pub refuses_word : (st : List (Part L)) (b : Open L) (all ls : List Lexeme) (w : List ℕ) (e : Error) → all ≡ word w ∷ ls → bracket_of form b ≡ one_text w → Refuses (λ o. (ls : List Lexeme) → IsFault (node read (found (bracket_of form b) ls)) o) e → Refuses (IsFaultFrom form read st Due all) e
    refuses_word st b all ls w e p q h =
        subst (λ x. Refuses (IsFaultFrom form read st Due x) e) (sym p)
        (Refuses-weaker (λ o. (ls : List Lexeme) → IsFault (node read (found (bracket_of form b) ls)) o) (IsFaultFrom form read st Due (word w ∷ ls)) e h (λ o k.
        faulty_base_open (parts_of form st) (parts_of form st) (word w ∷ ls) (node read (found (one_text w) ls)) o (reads_word read (parts_of form st) w ls) (subst (λ x. IsFault (node read (found x ls)) o) q (k ls))))

    pub stepped_variable : (st : List (Part L)) (p : Pattern L) (all ls : List Lexeme) (v : List ℕ) → all ≡ variable v ∷ ls → tree_of form p ≡ pvar v → ReadsAs form read st Due all st (Base p) ls
    stepped_variable st p all ls v e k r h =
        subst (λ x. ReadsOpen read (parts_of form st) x r) (sym e)
        (reads_variable read (parts_of form st) v ls r (subst (λ t. Continues read (parts_of form st) (found t ls) r) k h))

    -- a base before a `[`, and one that is a whole pattern
    pub stepped_left_bracket : (st st' : List (Part L)) (b : Pattern L) (box : Box (Pattern L) Global) (all ls : List Lexeme) → all ≡ left_bracket ∷ ls → box.value ≡ b → st' ≡ st ++ Place box ∷ [] → ReadsAs form read st (Base b) all st' Due ls
    stepped_left_bracket st st' b box all ls p e k r h =
        subst (λ x. Continues read (parts_of form st) (found (tree_of form b) x) r) (sym p)
        (reads_left_bracket read (parts_of form st) (tree_of form b) ls r (subst (λ x. ReadsOpen read x ls r) (parts_of-pushed st st' (Place box) k ∙ ap (λ x. before_place (tree_of form x) ∷ parts_of form st) e) h))

    pub stepped_whole : (st mid : List (Part L)) (b : Pattern L) (all ls : List Lexeme) → ls ≡ all → begins_with_left_bracket all ≡ false → length st ≡ 0 → ReadsAs form read st (Base b) all mid (Whole b) ls
    stepped_whole st mid b all ls p e n r h =
        subst (λ x. Continues read x (found (tree_of form b) all) r) (sym (parts_of-none st n))
        (reads_no_bracket read [] (tree_of form b) all r e (h ∙ ap (found (tree_of form b)) p))

    -- a whole pattern inside the innermost part
    pub stepped_on : (st mid st' : List (Part L)) (o : Option (Part L)) (part : Part L) (b : Pattern L) (at : Point L) (all ls ls' : List Lexeme) → ls ≡ all → begins_with_left_bracket all ≡ false → st ≡ mid ++ option_to_list o → o ≡ Some part → ResumesAs form read mid part b ls st' at ls' → ReadsAs form read st (Base b) all st' at ls'
    stepped_on st mid st' o part b at all ls ls' p e k q f r h =
        subst (λ x. Continues read x (found (tree_of form b) all) r) (sym (parts_of-popped st mid o part k q))
        (reads_no_bracket read (part_of form part ∷ parts_of form mid) (tree_of form b) all r e (subst (λ x. Resumes read (part_of form part ∷ parts_of form mid) (found (tree_of form b) x) r) p (f r h)))

    pub refuses_on : (st mid : List (Part L)) (o : Option (Part L)) (part : Part L) (b : Pattern L) (all ls : List Lexeme) (e : Error) → ls ≡ all → begins_with_left_bracket all ≡ false → st ≡ mid ++ option_to_list o → o ≡ Some part → Refuses (IsFaultAfter form read mid part b ls) e → Refuses (IsFaultFrom form read st (Base b) all) e
    refuses_on st mid o part b all ls e p n k q h =
        let inner = part_of form part ∷ parts_of form mid in
        Refuses-weaker (IsFaultAfter form read mid part b ls) (IsFaultFrom form read st (Base b) all) e h (λ u f. (
          f.0,
          f.1,
          subst (λ x. Continues read x (found (tree_of form b) all) (fault f.0)) (sym (parts_of-popped st mid o part k q))
              (reads_no_bracket read inner (tree_of form b) all (fault f.0) n (subst (λ x. Resumes read inner (found (tree_of form b) x) (fault f.0)) p f.2)),
        ))

    -- the same of the answer of a call
    pub answers_on : (st mid st' : List (Part L)) (o : Option (Part L)) (part : Part L) (b : Pattern L) (all ls ls' : List Lexeme) (r : Result (Point L) Error) → ls ≡ all → begins_with_left_bracket all ≡ false → st ≡ mid ++ option_to_list o → o ≡ Some part → IfOk r (λ at. ResumesAs form read mid part b ls st' at ls') → IfOk r (λ at. ReadsAs form read st (Base b) all st' at ls')
    answers_on st mid st' o part b all ls ls' (Ok at) p e k q h = stepped_on st mid st' o part b at all ls ls' p e k q h
    answers_on st mid st' o part b all ls ls' (Err e') p e k q h = tt

    pub refusals_on : (st mid : List (Part L)) (o : Option (Part L)) (part : Part L) (b : Pattern L) (all ls : List Lexeme) (r : Result (Point L) Error) → ls ≡ all → begins_with_left_bracket all ≡ false → st ≡ mid ++ option_to_list o → o ≡ Some part → IfErr r (Refuses (IsFaultAfter form read mid part b ls)) → IfErr r (Refuses (IsFaultFrom form read st (Base b) all))
    refusals_on st mid o part b all ls (Ok at) p n k q h = tt
    refusals_on st mid o part b all ls (Err e) p n k q h = refuses_on st mid o part b all ls e p n k q h

    pub resumed_child : (mid st' : List (Part L)) (b b' : Open L) (p : Pattern L) (ls : List Lexeme) → bracket_of form b' ≡ joined (bracket_of form b) (one_child (tree_of form p)) → st' ≡ mid ++ Node b' ∷ [] → ResumesAs form read mid (Node b) p ls st' Due ls
    resumed_child mid st' b b' p ls e k r h =
        reads_child read (bracket_of form b) (parts_of form mid) (tree_of form p) ls r (subst (λ x. ReadsOpen read x ls r) (parts_of-pushed mid st' (Node b') k ∙ ap (λ x. in_bracket x ∷ parts_of form mid) e) h)

    -- `:=` and what else may stand there
    pub resumed_colon_equals : (st st' : List (Part L)) (body : Box (Pattern L) Global) (place : Pattern L) (box : Box (Pattern L) Global) (all ls : List Lexeme) → all ≡ colon_equals ∷ ls → box.value ≡ place → st' ≡ st ++ Value body box ∷ [] → ResumesAs form read st (Place body) place all st' Due ls
    resumed_colon_equals st st' body place box all ls p e k r h =
        subst (λ x. Resumes read (before_place (tree_of form body.value) ∷ parts_of form st) (found (tree_of form place) x) r) (sym p)
        (reads_colon_equals read (tree_of form body.value) (parts_of form st) (tree_of form place) ls r (subst (λ x. ReadsOpen read x ls r) (parts_of-pushed st st' (Value body box) k ∙ ap (λ x. before_value (tree_of form body.value) (tree_of form x) ∷ parts_of form st) e) h))

    pub refuses_no_colon_equals : (st : List (Part L)) (body : Box (Pattern L) Global) (place : Pattern L) (all ls : List Lexeme) (e : Error) → ls ≡ all → begins_with_colon_equals all ≡ false → Refuses (λ (o : PatternOutcome). o ≡ outside (no_colon_equals ls)) e → Refuses (IsFaultAfter form read st (Place body) place all) e
    refuses_no_colon_equals st body place all ls e p n h =
        Refuses-weaker (λ (o : PatternOutcome). o ≡ outside (no_colon_equals ls)) (IsFaultAfter form read st (Place body) place all) e h (λ o q.
        (no_colon_equals all, q ∙ ap (λ x. outside (no_colon_equals x)) p, reads_no_colon_equals read (tree_of form body.value) (parts_of form st) (tree_of form place) all n))

    -- `]` and what else may stand there
    pub resumed_right_bracket : (st : List (Part L)) (body place : Box (Pattern L) Global) (value p : Pattern L) (all ls : List Lexeme) → all ≡ right_bracket ∷ ls → tree_of form p ≡ substitution (tree_of form body.value) (tree_of form place.value) (tree_of form value) → ResumesAs form read st (Value body place) value all st (Base p) ls
    resumed_right_bracket st body place value p all ls e k r h =
        subst (λ x. Resumes read (before_value (tree_of form body.value) (tree_of form place.value) ∷ parts_of form st) (found (tree_of form value) x) r) (sym e)
        (reads_right_bracket read (tree_of form body.value) (tree_of form place.value) (parts_of form st) (tree_of form value) ls r (subst (λ t. Continues read (parts_of form st) (found t ls) r) k h))

    pub refuses_no_right_bracket : (st : List (Part L)) (body place : Box (Pattern L) Global) (value : Pattern L) (all ls : List Lexeme) (e : Error) → ls ≡ all → begins_with_right_bracket all ≡ false → Refuses (λ (o : PatternOutcome). o ≡ outside (no_right_bracket ls)) e → Refuses (IsFaultAfter form read st (Value body place) value all) e
    refuses_no_right_bracket st body place value all ls e p n h =
        Refuses-weaker (λ (o : PatternOutcome). o ≡ outside (no_right_bracket ls)) (IsFaultAfter form read st (Value body place) value all) e h (λ o q.
        (no_right_bracket all, q ∙ ap (λ x. outside (no_right_bracket x)) p, reads_no_right_bracket read (tree_of form body.value) (tree_of form place.value) (parts_of form st) (tree_of form value) all n))

    -- ---- the whole reading

    pub followed : (all ls ls' : List Lexeme) (st st' : List (Part L)) (at from to : Point L) → ReadsAs form read [] Due all st at ls → at ≡ from → ReadsAs form read st from ls st' to ls' → ReadsAs form read [] Due all st' to ls'
    followed all ls ls' st st' at from to h p k r d = h r (subst (λ x. ReadsFrom form read st x ls r) (sym p) (k r d))

    pub follows_whole : (all ls : List Lexeme) (st : List (Part L)) (at : Point L) (p : Pattern L) → ReadsAs form read [] Due all st at ls → at ≡ Whole p → ReadsPattern read all (found (tree_of form p) ls)
    follows_whole all ls st at p h q =
        let d = h (found (tree_of form p) ls) (subst (λ x. ReadsFrom form read st x ls (found (tree_of form p) ls)) (sym q) refl) in
        subst (ReadsPattern read all) (sym d.2) d.1

    pub refuses_followed : (all ls : List Lexeme) (st : List (Part L)) (at from : Point L) (e : Error) → ReadsAs form read [] Due all st at ls → at ≡ from → Refuses (IsFaultFrom form read st from ls) e → Refuses (IsFaultOf read all) e
    refuses_followed all ls st at from e h p k =
        Refuses-weaker (IsFaultFrom form read st from ls) (IsFaultOf read all) e k (λ o q.
        let d = h (fault q.0) (subst (λ x. ReadsFrom form read st x ls (fault q.0)) (sym p) q.2) in
        (q.0, q.1, subst (ReadsPattern read all) (sym d.2) d.1))

-- the first of the tokens
pub first_token : (items rest : List Token) (x y : Token) → items ≡ x ∷ rest → x ≡ y → map lexeme_of items ≡ lexeme_of y ∷ map lexeme_of rest
first_token items rest x y p q = ap (map lexeme_of) p ∙ ap (λ t. lexeme_of t ∷ map lexeme_of rest) q
