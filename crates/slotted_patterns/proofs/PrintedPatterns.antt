-- What a pattern prints reads as that pattern, with any text after it that ends a run.
use Rattle.std.proofs.Common.{◌≡◌, ℕ, true, false, List, [], ◌∷◌, ◌++◌, length, refl, sym, subst, ap, ◌∙◌, arith, append_assoc, lit<, codes}
use Rattle.std.specs.Prelude.{Option, Some}
use Rattle.std.specs.Str.{chars}
use Rattle.slotted_slots.specs.Maps.{values}
use Rattle.slotted_slots.specs.Syntax.{Element, text, applied, name, Lexeme, slot, word, variable, colon_equals, left_paren, right_paren, left_bracket, right_bracket}
use Rattle.slotted_slots.specs.Table.{Table, shown_slot}
use Rattle.slotted_nodes.specs.Form.{Form}
use Rattle.slotted_nodes.specs.Identifier.{HasIdentifiers, HasNullIds}
use Rattle.slotted_nodes.specs.ReadFrom.{slots_of, applied_count}
use Rattle.slotted_patterns.specs.Tree.{PatternTree, enode, pvar, substitution, row_of}
use Rattle.slotted_patterns.specs.Grammar.{Reading, found, Bracket, built, one_text, after, node, begins_pattern, begins_slot_or_end, begins_with_left_bracket, ReadsPattern, based, of_variable, alone, bracket, ReadsBracket, end, then_slot, then_child, goes_on, ReadsSubstitutions, no_substitution, substituted, becomes, closed}
use Rattle.slotted_patterns.specs.Shown.{part_texts, spaced, node_text}
use Rattle.slotted_patterns.specs.ReadAgain.{HasNoText, IsWordAndParts}
use Rattle.slotted_patterns.proofs.PrintedTokens.{EndsRun, ends_run, IsRun, TextHas, text_bracket, text_space, text_becomes, text_word, text_variable, text_slot}
use Rattle.slotted_patterns.proofs.PrintablePatterns.{EachPrints}

-- what begins as a pattern goes on in a bracket as one, and is no substitution
pattern_begins : (ls : List Lexeme) → begins_pattern ls ≡ true → (begins_slot_or_end ls ≡ false) × (begins_with_left_bracket ls ≡ false)
pattern_begins [] h = absurd (cc)
pattern_begins (word w ∷ ls) h = (refl, refl)
pattern_begins (variable v ∷ ls) h = (refl, refl)
pattern_begins (left_paren ∷ ls) h = (refl, refl)
pattern_begins (slot s ∷ ls) h = absurd (cc)
pattern_begins (colon_equals ∷ ls) h = absurd (cc)
pattern_begins (right_paren ∷ ls) h = absurd (cc)
pattern_begins (left_bracket ∷ ls) h = absurd (cc)
pattern_begins (right_bracket ∷ ls) h = absurd (cc)

module _ (t : Table) (read : List Element → Option Form) where
  -- the text, before any other that ends a run, reads as the pattern before what the other reads as
  abbrev pub PrintsAs : PatternTree → List ℕ → Type 0
  PrintsAs p bs =
      (rest : List ℕ) (ls : List Lexeme) → EndsRun (chars rest) → TextHas t rest ls
      → (ms : List Lexeme) × TextHas t (bs ++ rest) ms × (begins_pattern ms ≡ true) × ((r : Reading PatternTree) → ReadsSubstitutions read (found p ls) r → ReadsPattern read ms r)

  pub variable_prints : (v : List ℕ) → IsRun v → PrintsAs (pvar v) (codes "?" ++ v)
  variable_prints v run rest ls e h = (variable v ∷ ls, text_variable t v rest ls run e h, refl, λ r s. based of_variable s)

  pub substitution_prints : (b x v : PatternTree) (bs xs vs : List ℕ) → PrintsAs b bs → PrintsAs x xs → PrintsAs v vs → PrintsAs (substitution b x v) (bs ++ (codes "[" ++ (xs ++ (codes " := " ++ (vs ++ codes "]")))))
  substitution_prints b x v bs xs vs body place value rest ls e h =
      let end_text = text_bracket t 93 right_bracket rest ls (lit< tt) refl refl h in
      let v_read = value (93 ∷ rest) (right_bracket ∷ ls) (ends_run 93 rest (lit< tt) refl) end_text in
      let v_text = vs ++ (93 ∷ rest) in
      let sign_text = text_becomes t (32 ∷ v_text) v_read.0 (text_space t v_text v_read.0 v_read.1) in
      let spaced_text = text_space t (58 ∷ 61 ∷ 32 ∷ v_text) (colon_equals ∷ v_read.0) sign_text in
      let x_read = place (32 ∷ 58 ∷ 61 ∷ 32 ∷ v_text) (colon_equals ∷ v_read.0) (ends_run 32 (58 ∷ 61 ∷ 32 ∷ v_text) (lit< tt) refl) spaced_text in
      let x_text = xs ++ (32 ∷ 58 ∷ 61 ∷ 32 ∷ v_text) in
      let open_text = text_bracket t 91 left_bracket x_text x_read.0 (lit< tt) refl refl x_read.1 in
      let b_read = body (91 ∷ x_text) (left_bracket ∷ x_read.0) (ends_run 91 x_text (lit< tt) refl) open_text in
      let same : (bs ++ (codes "[" ++ (xs ++ (codes " := " ++ (vs ++ codes "]"))))) ++ rest ≡ bs ++ (91 ∷ x_text) = simp append_assoc in (
        b_read.0,
        subst (λ ds. TextHas t ds b_read.0) (sym same) b_read.1,
        b_read.2,
        λ r s.
            b_read.3 r (substituted (x_read.3 _ (no_substitution refl)) (becomes (v_read.3 _ (no_substitution refl)) (closed s))),
      )

  -- the patterns print as the texts in turn
  abbrev pub EachPrintsAs : List PatternTree → List (List ℕ) → Type 0
  EachPrintsAs [] [] = Unit {0}
  EachPrintsAs (p ∷ ps) (u ∷ us) = PrintsAs p u × EachPrintsAs ps us
  EachPrintsAs _ _ = ⊥

  -- what follows the word of a bracket
  abbrev BracketReads : List Element → List PatternTree → List ℕ → List Lexeme → Type 0
  BracketReads es ps bs ls =
      (ms : List Lexeme) × TextHas t bs ms × (begins_with_left_bracket ms ≡ false) × ReadsBracket read ms (found (record { elements = es; children = ps }) ls) × EndsRun (chars bs)

  parts_print : (es : List Element) (ps : List PatternTree) (us : List (List ℕ)) (rest : List ℕ) (ls : List Lexeme) → HasNoText es → HasNullIds es → EachPrints t (slots_of es) → applied_count es ≡ length ps → EachPrintsAs ps us → TextHas t rest ls
      → BracketReads es ps (spaced (codes " ") (part_texts t es us) ++ (41 ∷ rest)) ls
  parts_print [] [] us rest ls plain null slots count prints h =
      (right_paren ∷ ls, text_bracket t 41 right_paren rest ls (lit< tt) refl refl h, refl, end, ends_run 41 rest (lit< tt) refl)
  parts_print [] (p ∷ ps) us rest ls plain null slots count prints h = absurd (cc)
  parts_print (text w ∷ es) ps us rest ls plain null slots count prints h = absurd plain
  parts_print (name x ∷ es) ps us rest ls plain null slots count prints h =
      let more = parts_print es ps us rest ls plain null slots.1 count prints h in
      let s = slots.0 in
      let tail = spaced (codes " ") (part_texts t es us) in
      let here = text_slot t x s.text (tail ++ (41 ∷ rest)) more.0 s.run s.names more.4 more.1 in
      let same : 36 ∷ (s.text ++ (tail ++ (41 ∷ rest))) ≡ (shown_slot t x ++ tail) ++ (41 ∷ rest) =
      ap (λ ds. ds ++ (tail ++ (41 ∷ rest))) (sym s.shown) ∙ sym (append_assoc (shown_slot t x) tail (41 ∷ rest)) in
      let bs = (shown_slot t x ++ tail) ++ (41 ∷ rest) in
      (slot x ∷ more.0, text_space t bs (slot x ∷ more.0) (subst (λ ds. TextHas t ds (slot x ∷ more.0)) same here), refl, then_slot more.3, ends_run 32 bs (lit< tt) refl)
  parts_print (applied i m ∷ es) [] us rest ls plain null slots count prints h = absurd (cc)
  parts_print (applied i m ∷ es) (p ∷ ps) [] rest ls plain null slots count prints h = absurd prints
  parts_print (applied i m ∷ es) (p ∷ ps) (u ∷ us) rest ls plain null slots count prints h =
      let no_slots : EachPrints t (slots_of es) = subst (λ k. EachPrints t (values k ++ slots_of es)) null.1 slots in
      let fewer : applied_count es ≡ length ps = omega (arith, count) in
      let more = parts_print es ps us rest ls plain null.2 no_slots fewer prints.1 h in
      let tail = spaced (codes " ") (part_texts t es us) in
      let here = prints.0 (tail ++ (41 ∷ rest)) more.0 more.4 more.1 in
      let bs = (u ++ tail) ++ (41 ∷ rest) in
      let begins = pattern_begins here.0 here.2 in
      let child_text = subst (λ ds. TextHas t ds here.0) (sym (append_assoc u tail (41 ∷ rest))) here.1 in
      let whole = then_child begins.0 (here.3 _ (no_substitution more.2)) (goes_on more.3) in (
        here.0,
        text_space t bs here.0 child_text,
        begins.1,
        subst (λ ds. ReadsBracket read here.0 (found (record { elements = ds; children = p ∷ ps }) ls)) (λ k. applied (sym null.0 k) (sym null.1 k) ∷ es) whole,
        ends_run 32 bs (lit< tt) refl,
      )

  -- a node
  pub node_prints : (f : Form) (es : List Element) (ps : List PatternTree) (us : List (List ℕ)) → read es ≡ Some f → IsWordAndParts es → HasIdentifiers es → HasNullIds es → EachPrints t (slots_of es) → applied_count es ≡ length ps → EachPrintsAs ps us → PrintsAs (enode f (row_of ps)) (node_text t es us)
  node_prints f [] ps us reads plain ids null slots count prints rest ls e h = absurd plain
  node_prints f (applied i m ∷ es) ps us reads plain ids null slots count prints rest ls e h = absurd plain
  node_prints f (name x ∷ es) ps us reads plain ids null slots count prints rest ls e h = absurd plain
  node_prints f (text w ∷ []) (p ∷ ps) us reads plain ids null slots count prints rest ls e h = absurd (cc)
  node_prints f (text w ∷ []) [] us reads plain ids null slots count prints rest ls e h =
      let same : node read (found (one_text w) ls) ≡ found (enode f (row_of [])) ls = ap (λ o. built o (one_text w) ls) reads in
      (word w ∷ ls, text_word t w rest ls ids.0 e h, refl, λ r s. based alone (subst (λ b. ReadsSubstitutions read b r) (sym same) s))
  node_prints f (text w ∷ d ∷ es) ps us reads plain ids null slots count prints rest ls e h =
      let more = parts_print (d ∷ es) ps us rest ls plain null slots count prints h in
      let parts : Bracket = record { elements = d ∷ es; children = ps } in
      let tail = spaced (codes " ") (part_texts t (d ∷ es) us) in
      let word_text = text_word t w (tail ++ (41 ∷ rest)) more.0 ids.0 more.4 more.1 in
      let bs = w ++ (tail ++ (41 ∷ rest)) in
      let open_text = text_bracket t 40 left_paren bs (word w ∷ more.0) (lit< tt) refl refl word_text in
      let regrouped : (40 ∷ ((w ++ tail) ++ codes ")")) ++ rest ≡ 40 ∷ bs = simp append_assoc in
      let same : node read (after (one_text w) (found parts ls)) ≡ found (enode f (row_of ps)) ls = ap (λ o. built o (record { elements = text w ∷ d ∷ es; children = ps }) ls) reads in (
        left_paren ∷ word w ∷ more.0,
        subst (λ ds. TextHas t ds (left_paren ∷ word w ∷ more.0)) (sym regrouped) open_text,
        refl,
        λ r s.
            based (bracket more.3) (subst (λ b. ReadsSubstitutions read b r) (sym same) s),
      )
