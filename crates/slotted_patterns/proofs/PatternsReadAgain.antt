-- A pattern that was read prints as a text that reads as it.
use Rattle.std.proofs.Common.{◌≡◌, ℕ, suc, List, [], ◌∷◌, length, map, refl, sym, subst, ap, ◌∙◌, true, append-nil}
use Rattle.std.specs.Prelude.{Option, Some, IfSome, string_bytes}
use Rattle.std.specs.Str.{chars}
use Rattle.std.proofs.Math.Utf8.{scalars}
use Rattle.std.proofs.lemmas.Str.{scalars-chars}
use Rattle.slotted_slots.specs.Syntax.{Element, text, applied, name, Lexeme}
use Rattle.slotted_slots.specs.Table.{Table, IsTable}
use Rattle.slotted_nodes.specs.Form.{Form}
use Rattle.slotted_nodes.specs.Identifier.{HasIdentifiers, HasNullIds, AreNull, HasNullChildren}
use Rattle.slotted_nodes.specs.ReadFrom.{IsReadFrom, applied_count}
use Rattle.slotted_patterns.specs.Tree.{PatternTree, enode, row_of}
use Rattle.slotted_patterns.specs.View.{tree_of, tree_step}
use Rattle.slotted_patterns.specs.Shown.{pattern_text, text_step, node_text}
use Rattle.slotted_patterns.specs.ReadAgain.{applied_ids, IsWordAndPlaces, ReadsAsItself}
use Rattle.slotted_patterns.specs.Outcome.{PatternOutcome, parsed}
use Rattle.slotted_patterns.specs.Grammar.{Reading, found, fault, no_substitution, whole}
use Rattle.slotted_patterns.specs.Parsed.{TokensRead, as_pattern, PatternReads, without_tokens, by_tokens}
use Rattle.slotted_patterns.specs.declared.pattern.Pattern.{Pattern}
use Rattle.slotted_patterns.specs.declared.pattern.Pattern.TheOpen.{Pattern-F}
use Rattle.slotted_patterns.specs.declared.pattern.Pattern.TheFolds.{fold-roll-Pattern, ind-Pattern, map-Pattern}
use Rattle.slotted_patterns.specs.declared.pattern.Pattern.TheViews.{roll-Pattern}
use Rattle.slotted_patterns.proofs.KnownTokens.{IsNoTerm, Learns, next_token-learns}
use Rattle.slotted_patterns.proofs.PrintedTokens.{TextHas, text_nil, ends_run-nil}
use Rattle.slotted_patterns.proofs.PrintableTokens.{ArePrintable, BeginsWith-prints}
use Rattle.slotted_patterns.proofs.PrintablePatterns.{EachPrints, IsReadTree, IsReadReading, pattern_read, AreReadTrees, row_length-row_of}
use Rattle.slotted_patterns.proofs.PrintedPatterns.{PrintsAs, EachPrintsAs, variable_prints, substitution_prints, node_prints}

-- null children stand in null ids
HasNullIds-from : (es : List Element) → AreNull (applied_ids es) → HasNullIds es
HasNullIds-from [] h = tt
HasNullIds-from (text bs ∷ es) h = HasNullIds-from es h
HasNullIds-from (applied i [] ∷ es) h = (h.0, refl, HasNullIds-from es h.2)
HasNullIds-from (applied i (e ∷ m) ∷ es) h = let wrong = h.1 in absurd (cc)
HasNullIds-from (name x ∷ es) h = HasNullIds-from es h

length-applied_ids : (es : List Element) → length (applied_ids es) ≡ applied_count es
length-applied_ids [] = refl
length-applied_ids (text bs ∷ es) = length-applied_ids es
length-applied_ids (applied i m ∷ es) = ap suc (length-applied_ids es)
length-applied_ids (name x ∷ es) = length-applied_ids es

module _ {L : Type 0} (t : Table) (read : List Element → Option Form) (form : L → Form) (written : L → List Element) (plain : (a : L) → IsWordAndPlaces (form a) (written a)) (words : (es : List Element) (a : L) → HasIdentifiers es → read es ≡ Some (form a) → HasIdentifiers (written a)) (back : (es : List Element) (a : L) → HasIdentifiers es → read es ≡ Some (form a) → read (written a) ≡ Some (form a)) where
  abbrev Prints : PatternTree → List ℕ → Type 0
  Prints p bs = IsReadTree t read p → PrintsAs t read p bs

  abbrev IsPrinted : Pattern L → Type 0
  IsPrinted p = Prints (tree_of form p) (pattern_text written t p)

  -- children that print
  abbrev trees : List ((p : Pattern L) × IsPrinted p) → List PatternTree
  trees ps = map (tree_of form) (map (λ e. e.0) ps)

  abbrev texts : List ((p : Pattern L) × IsPrinted p) → List (List ℕ)
  texts ps = map (pattern_text written t) (map (λ e. e.0) ps)

  children_print : (ps : List ((p : Pattern L) × IsPrinted p)) → AreReadTrees t read (row_of (trees ps)) → EachPrintsAs t read (trees ps) (texts ps)
  children_print [] h = tt
  children_print (p ∷ ps) h = (p.1 h.0, children_print ps h.1)

  node_printed : (a : L) (ps : List ((p : Pattern L) × IsPrinted p)) → Prints (enode (form a) (row_of (trees ps))) (node_text t (written a) (texts ps))
  node_printed a ps h =
      let node = h.0 in
      let is = plain a in
      let null = HasNullIds-from (written a) (subst AreNull (sym is.children) node.nulls) in
      let slots = subst (EachPrints t) (sym is.slots) node.slots in
      let count = sym (length-applied_ids (written a)) ∙ (ap length is.children ∙ (node.count ∙ row_length-row_of (trees ps))) in
      node_prints t read (form a) (written a) (trees ps) (texts ps) (back node.elements a node.identifiers node.reads) is.word
      (words node.elements a node.identifiers node.reads) null slots count (children_print ps h.1)

  level_printed : (y : Pattern-F L ((p : Pattern L) × IsPrinted p)) → Prints (tree_step form (map-Pattern L (Pattern L) PatternTree (tree_of form) (map-Pattern L ((p : Pattern L) × IsPrinted p) (Pattern L) (λ e. e.0) y))) (text_step written t (map-Pattern L (Pattern L) (List ℕ) (pattern_text written t) (map-Pattern L ((p : Pattern L) × IsPrinted p) (Pattern L) (λ e. e.0) y)))
  level_printed (Pattern-F.ENode a inner) = node_printed a inner.items
  level_printed (Pattern-F.PVar v) = λ h. variable_prints t read (string_bytes v) h
  level_printed (Pattern-F.Subst body place value) = λ h.
      substitution_prints t read _ _ _ _ _ _ (body.value.1 h.0) (place.value.1 h.1) (value.value.1 h.2)

  pub pattern_prints : (p : Pattern L) → IsPrinted p
  pattern_prints = ind-Pattern L IsPrinted (λ x y is.
      let tree = fold-roll-Pattern L PatternTree (tree_step form) x in
      let text = fold-roll-Pattern L (List ℕ) (text_step written t) x in
      let level = subst (λ z. Prints (tree_step form (map-Pattern L (Pattern L) PatternTree (tree_of form) z)) (text_step written t (map-Pattern L (Pattern L) (List ℕ) (pattern_text written t) z))) is (level_printed y) in
      subst (λ p. Prints p (pattern_text written t (roll-Pattern L x))) (sym tree)
      (subst (λ bs. Prints (tree_step form (map-Pattern L (Pattern L) PatternTree (tree_of form) x)) bs) (sym text) level))

module _ {L : Type 0} (form : L → Form) (written : L → List Element) (read : List Element → Option Form) where
  -- a pattern was read, and it can be printed
  abbrev IsReadOutcome : Table → PatternOutcome → Type 0
  IsReadOutcome u (parsed p) = IsReadTree u read p
  IsReadOutcome u o = Unit {0}

  no_pattern_read : (u : Table) (o : PatternOutcome) → IsNoTerm o → IsReadOutcome u o
  no_pattern_read u (parsed p) h = absurd h
  no_pattern_read u o h = tt

  whole_read : (u : Table) (r : Reading PatternTree) → IsReadReading u read r → IsReadOutcome u (whole r)
  whole_read u (found p []) h = h.0
  whole_read u (found p (l ∷ ls)) h = tt
  whole_read u (fault f) h = tt

  module _ (faithful : (es : List Element) → IfSome (read es) (IsReadFrom es)) (null : (es : List Element) → HasNullIds es → IfSome (read es) HasNullChildren) where
    tokens_read : (u : Table) {ls : List Lexeme} {o : PatternOutcome} → TokensRead read ls o → ArePrintable u ls → IsReadOutcome u o
    tokens_read u (as_pattern {r = r} d) k = whole_read u r (pattern_read u read faithful null d k)

    text_read : (t : Table) (cs : List ℕ) (o : PatternOutcome) (u : Table) → IsTable u → scalars cs ≡ true → PatternReads read t cs o u → IsReadOutcome u o
    text_read t cs o u sound valid (without_tokens h) = no_pattern_read u o (subst (Learns u) h.3 (next_token-learns u h.1))
    text_read t cs o u sound valid (by_tokens {ls = ls} h d) = tokens_read u d (BeginsWith-prints t cs ls h.0 u sound valid h.1).1

    pub reads_again : ((es : List Element) (a : L) → HasIdentifiers es → read es ≡ Some (form a) → HasIdentifiers (written a)) → ((es : List Element) (a : L) → HasIdentifiers es → read es ≡ Some (form a) → read (written a) ≡ Some (form a)) → ((a : L) → IsWordAndPlaces (form a) (written a)) → ReadsAsItself form written read
    reads_again words back plain t u bs p utf8 sound h =
        let tree = tree_of form p in
        let read_tree : IsReadTree u read tree = text_read t (chars bs) (parsed tree) u sound (scalars-chars bs utf8) h in
        let printed = pattern_prints u read form written plain words back p read_tree [] [] ends_run-nil (text_nil u) in
        let tokens = subst (λ ds. TextHas u ds printed.0) (append-nil (pattern_text written u p)) printed.1 in
        by_tokens {ls = printed.0} tokens (as_pattern {r = found tree []} (printed.3 (found tree []) (no_substitution refl)))
