-- A pattern that was read from tokens that can be printed can be printed: each of its nodes was read from elements whose
-- texts are identifiers, whose applied ids are null, and whose slots print as runs.
use Rattle.std.proofs.Common.{◌≡◌, ℕ, suc, List, [], ◌∷◌, ◌++◌, length, refl, sym, subst, ap, ◌∙◌, arith, length-append, inl, inr}
use Rattle.std.specs.Prelude.{IsTrue, Option, Some, None, IfSome, ◌==◌, ◌||◌}
use Rattle.std.proofs.lemmas.Bool.{or_cases, eqb-true, eq-eqb}
use Rattle.std.proofs.Math.Bool.{or-true}
use Rattle.slotted_slots.specs.Maps.{is_among}
use Rattle.slotted_slots.specs.Syntax.{Element, text, applied, name, Lexeme}
use Rattle.slotted_slots.specs.Table.{Table}
use Rattle.slotted_nodes.specs.Form.{Form, children}
use Rattle.slotted_nodes.specs.Identifier.{IsIdentifier, HasIdentifiers, HasNullIds, HasNullChildren}
use Rattle.slotted_nodes.specs.ReadFrom.{IsReadFrom, slots_of, slots_of-append, applied_count, applied_count-append}
use Rattle.slotted_patterns.specs.Tree.{PatternTree, enode, pvar, substitution, PatternRow, no_more, one_more, row_of}
use Rattle.slotted_patterns.specs.Grammar.{Reading, found, fault, Bracket, built, joined, one_text, one_slot, one_child, after, node, ReadsPattern, based, ReadsBase, of_variable, alone, bracket, no_operator, no_base, ReadsBracket, end, then_slot, then_child, ReadsOnAfter, goes_on, faulty_child, ReadsSubstitutions, no_substitution, substituted, faulty_base, ReadsValue, becomes, no_becomes, faulty_place, ReadsClose, closed, not_closed, faulty_value}
use Rattle.slotted_patterns.proofs.PrintedTokens.{IsRun}
use Rattle.slotted_patterns.proofs.PrintedSlots.{PrintsAsRun}
use Rattle.slotted_patterns.proofs.PrintableTokens.{ArePrintable}

HasIdentifiers-append : (es ds : List Element) → HasIdentifiers es → HasIdentifiers ds → HasIdentifiers (es ++ ds)
HasIdentifiers-append [] ds h k = k
HasIdentifiers-append (text bs ∷ es) ds h k = (h.0, HasIdentifiers-append es ds h.1 k)
HasIdentifiers-append (applied i m ∷ es) ds h k = HasIdentifiers-append es ds h k
HasIdentifiers-append (name x ∷ es) ds h k = HasIdentifiers-append es ds h k

HasNullIds-append : (es ds : List Element) → HasNullIds es → HasNullIds ds → HasNullIds (es ++ ds)
HasNullIds-append [] ds h k = k
HasNullIds-append (text bs ∷ es) ds h k = HasNullIds-append es ds h k
HasNullIds-append (applied i m ∷ es) ds h k = (h.0, h.1, HasNullIds-append es ds h.2 k)
HasNullIds-append (name x ∷ es) ds h k = HasNullIds-append es ds h k

abbrev pub row_length : PatternRow → ℕ
row_length no_more = 0
row_length (one_more p rest) = suc (row_length rest)

pub row_length-row_of : (ps : List PatternTree) → row_length (row_of ps) ≡ length ps
row_length-row_of [] = refl
row_length-row_of (p ∷ ps) = ap suc (row_length-row_of ps)

module _ (t : Table) where
  -- each of the slots prints as a run that names it
  abbrev pub EachPrints : List ℕ → Type 0
  EachPrints [] = Unit {0}
  EachPrints (x ∷ xs) = PrintsAsRun t x × EachPrints xs

  EachPrints-append : (xs ys : List ℕ) → EachPrints xs → EachPrints ys → EachPrints (xs ++ ys)
  EachPrints-append [] ys h k = k
  EachPrints-append (x ∷ xs) ys h k = (h.0, EachPrints-append xs ys h.1 k)

  EachPrints-among : (x : ℕ) (xs : List ℕ) → IsTrue (is_among x xs) → EachPrints xs → PrintsAsRun t x
  EachPrints-among x [] m h = absurd (cc)
  EachPrints-among x (y ∷ xs) m h = elim (or_cases (y == x) (is_among x xs) m) [
    | inl e ↦ subst (PrintsAsRun t) (eqb-true y x e) h.0
    | inr k ↦ EachPrints-among x xs k h.1
  ]

  EachPrints-subset : (xs ys : List ℕ) → ((x : ℕ) → IsTrue (is_among x xs) → IsTrue (is_among x ys)) → EachPrints ys → EachPrints xs
  EachPrints-subset [] ys f h = tt
  EachPrints-subset (x ∷ xs) ys f h = (
    EachPrints-among x ys (f x (ap (λ b. b || is_among x xs) (eq-eqb x x refl))) h,
    EachPrints-subset xs ys (λ z k. f z (ap (λ b. (x == z) || b) k ∙ or-true (x == z))) h,
  )

  module _ (read : List Element → Option Form) where
    -- a node with n children that was read from identifiers, null ids, and slots that print as runs
    pub record IsReadNode (f : Form) (n : ℕ) : Type 0 where
      pub elements : List Element
      pub identifiers : HasIdentifiers elements
      pub reads : read elements ≡ Some f
      pub slots : EachPrints f.names
      pub nulls : HasNullChildren f
      pub count : length (children f.tree) ≡ n

    -- each node is one, and the name of each variable is a run
    abbrev mutual
      pub IsReadTree : PatternTree → Type 0
      IsReadTree (enode f row) = IsReadNode f (row_length row) × AreReadTrees row
      IsReadTree (pvar v) = IsRun v
      IsReadTree (substitution b x v) = IsReadTree b × IsReadTree x × IsReadTree v

      pub AreReadTrees : PatternRow → Type 0
      AreReadTrees no_more = Unit {0}
      AreReadTrees (one_more p rest) = IsReadTree p × AreReadTrees rest

    AreReadTrees-append : (ps qs : List PatternTree) → AreReadTrees (row_of ps) → AreReadTrees (row_of qs) → AreReadTrees (row_of (ps ++ qs))
    AreReadTrees-append [] qs h k = k
    AreReadTrees-append (p ∷ ps) qs h k = (h.0, AreReadTrees-append ps qs h.1 k)

    -- the part of a bracket that was read
    record IsReadBracket (b : Bracket) : Type 0 where
      identifiers : HasIdentifiers b.elements
      nulls : HasNullIds b.elements
      slots : EachPrints (slots_of b.elements)
      count : applied_count b.elements ≡ length b.children
      children : AreReadTrees (row_of b.children)

    joined_read : (a b : Bracket) → IsReadBracket a → IsReadBracket b → IsReadBracket (joined a b)
    joined_read a b h k = record {
      identifiers = HasIdentifiers-append a.elements b.elements h.identifiers k.identifiers;
      nulls = HasNullIds-append a.elements b.elements h.nulls k.nulls;
      slots = subst EachPrints (sym (slots_of-append a.elements b.elements)) (EachPrints-append (slots_of a.elements) (slots_of b.elements) h.slots k.slots);
      count = omega (arith, applied_count-append a.elements b.elements, length-append a.children b.children, h.count, k.count);
      children = AreReadTrees-append a.children b.children h.children k.children;
    }

    text_read : (w : List ℕ) → IsIdentifier w → IsReadBracket (one_text w)
    text_read w h = record { identifiers = (h, tt); nulls = tt; slots = tt; count = refl; children = tt }

    slot_read : (s : ℕ) → PrintsAsRun t s → IsReadBracket (one_slot s)
    slot_read s h = record { identifiers = tt; nulls = tt; slots = (h, tt); count = refl; children = tt }

    child_read : (p : PatternTree) → IsReadTree p → IsReadBracket (one_child p)
    child_read p h = record { identifiers = tt; nulls = (refl, refl, tt); slots = tt; count = refl; children = (h, tt) }

    -- what was read, and the tokens after it, can be printed
    abbrev pub IsReadReading : Reading PatternTree → Type 0
    IsReadReading (found p rest) = IsReadTree p × ArePrintable t rest
    IsReadReading (fault f) = Unit {0}

    abbrev IsReadPart : Reading Bracket → Type 0
    IsReadPart (found b rest) = IsReadBracket b × ArePrintable t rest
    IsReadPart (fault f) = Unit {0}

    after_read : (a : Bracket) (r : Reading Bracket) → IsReadBracket a → IsReadPart r → IsReadPart (after a r)
    after_read a (found b rest) h k = (joined_read a b h k.0, k.1)
    after_read a (fault f) h k = tt

    built_read : (o : Option Form) (b : Bracket) (rest : List Lexeme) → read b.elements ≡ o → IfSome o (IsReadFrom b.elements) → IfSome o HasNullChildren → IsReadBracket b → ArePrintable t rest → IsReadReading (built o b rest)
    built_read None b rest e made null h k = tt
    built_read (Some f) b rest e made null h k =
        let made : IsReadFrom b.elements f = made in
        let node : IsReadNode f (row_length (row_of b.children)) = record {
          elements = b.elements;
          identifiers = h.identifiers;
          reads = e;
          slots = EachPrints-subset f.names (slots_of b.elements) made.slots h.slots;
          nulls = null;
          count = made.count ∙ (h.count ∙ sym (row_length-row_of b.children));
        } in
        ((node, h.children), k)

    module _ (faithful : (es : List Element) → IfSome (read es) (IsReadFrom es)) (null : (es : List Element) → HasNullIds es → IfSome (read es) HasNullChildren) where
      node_read : (r : Reading Bracket) → IsReadPart r → IsReadReading (node read r)
      node_read (found b rest) h = built_read (read b.elements) b rest refl (faithful b.elements) (null b.elements h.0.nulls) h.0 h.1
      node_read (fault f) h = tt

      mutual
        pub pattern_read : {ls : List Lexeme} {r : Reading PatternTree} → ReadsPattern read ls r → ArePrintable t ls → IsReadReading r
        pattern_read (based d e) k = substitutions_read e (base_read d k)

        base_read : {ls : List Lexeme} {r : Reading PatternTree} → ReadsBase read ls r → ArePrintable t ls → IsReadReading r
        base_read of_variable k = (k.0, k.1)
        base_read (alone {w = w} {ls = ls}) k = node_read (found (one_text w) ls) (text_read w k.0, k.1)
        base_read (bracket {w = w} {r = r} d) k = node_read (after (one_text w) r) (after_read (one_text w) r (text_read w k.1.0) (bracket_read d k.1.1))
        base_read (no_operator e) k = tt
        base_read (no_base e) k = tt

        bracket_read : {ls : List Lexeme} {r : Reading Bracket} → ReadsBracket read ls r → ArePrintable t ls → IsReadPart r
        bracket_read end k = (record { identifiers = tt; nulls = tt; slots = tt; count = refl; children = tt }, k.1)
        bracket_read (then_slot {s = s} {r = r} d) k = after_read (one_slot s) r (slot_read s k.0) (bracket_read d k.1)
        bracket_read (then_child e d f) k = rest_read f (pattern_read d k)

        rest_read : {p : Reading PatternTree} {r : Reading Bracket} → ReadsOnAfter read p r → IsReadReading p → IsReadPart r
        rest_read (goes_on {p = p} {r = r} d) k = after_read (one_child p) r (child_read p k.0) (bracket_read d k.1)
        rest_read faulty_child k = tt

        substitutions_read : {b r : Reading PatternTree} → ReadsSubstitutions read b r → IsReadReading b → IsReadReading r
        substitutions_read (no_substitution e) k = k
        substitutions_read (substituted d e) k = value_read e k.0 (pattern_read d k.1.1)
        substitutions_read faulty_base k = tt

        value_read : {b : PatternTree} {x r : Reading PatternTree} → ReadsValue read b x r → IsReadTree b → IsReadReading x → IsReadReading r
        value_read (becomes d e) h k = close_read e h k.0 (pattern_read d k.1.1)
        value_read (no_becomes e) h k = tt
        value_read faulty_place h k = tt

        close_read : {b x : PatternTree} {v r : Reading PatternTree} → ReadsClose read b x v r → IsReadTree b → IsReadTree x → IsReadReading v → IsReadReading r
        close_read (closed d) h j k = substitutions_read d ((h, j, k.0), k.1.1)
        close_read (not_closed e) h j k = tt
        close_read faulty_value h j k = tt
