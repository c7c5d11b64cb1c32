-- A term prints as its pattern.
use Rattle.std.proofs.Common.{◌≡◌, ℕ, List, [], ◌∷◌, map, refl, sym, subst, ap, ◌∙◌}
use Rattle.slotted_theory.specs.Term.{Term}
use Rattle.slotted_slots.specs.Syntax.{Element}
use Rattle.slotted_slots.specs.Table.{Table}
use Rattle.slotted_nodes.specs.Form.{Form}
use Rattle.slotted_languages.specs.Filled.{term_of}
use Rattle.slotted_patterns.specs.Tree.{PatternTree, enode, row_of}
use Rattle.slotted_patterns.specs.View.{tree_of, tree_step}
use Rattle.slotted_patterns.specs.Shown.{node_text, pattern_text, text_step}
use Rattle.slotted_patterns.specs.declared.pattern.Pattern.{Pattern}
use Rattle.slotted_patterns.specs.declared.pattern.Pattern.TheOpen.{Pattern-F}
use Rattle.slotted_patterns.specs.declared.pattern.Pattern.TheFolds.{fold-roll-Pattern, ind-Pattern, map-Pattern}
use Rattle.slotted_patterns.specs.declared.pattern.Pattern.TheViews.{roll-Pattern}
use Rattle.slotted_terms.specs.Shown.{term_text, IsWrittenAs, PrintAs}
use Rattle.slotted_terms.specs.TermPattern.{term_in, terms_in, IsGround, AreGround}
use Rattle.slotted_terms.proofs.TermTexts.{node_text-term}

module _ {L : Type 0} (form : L → Form) (shown : L → List Element) (written : Term → List Element) (written_as : (a : L) (us : List Term) → IsWrittenAs (form a) (shown a) (written (term_of (form a) us))) (t : Table) where
  abbrev Prints : PatternTree → List ℕ → Type 0
  Prints p bs = IsGround p → bs ≡ term_text written t (term_in p)

  abbrev IsPrinted : Pattern L → Type 0
  IsPrinted p = Prints (tree_of form p) (pattern_text shown t p)

  abbrev trees : List ((p : Pattern L) × IsPrinted p) → List PatternTree
  trees ps = map (tree_of form) (map (λ e. e.0) ps)

  abbrev texts : List ((p : Pattern L) × IsPrinted p) → List (List ℕ)
  texts ps = map (pattern_text shown t) (map (λ e. e.0) ps)

  children_print : (ps : List ((p : Pattern L) × IsPrinted p)) → AreGround (row_of (trees ps)) → texts ps ≡ map (term_text written t) (terms_in (row_of (trees ps)))
  children_print [] g = refl
  children_print (p ∷ ps) g = λ i. p.1 g.0 i ∷ children_print ps g.1 i

  node_printed : (a : L) (ps : List ((p : Pattern L) × IsPrinted p)) → Prints (enode (form a) (row_of (trees ps))) (node_text t (shown a) (texts ps))
  node_printed a ps g =
      let ts = terms_in (row_of (trees ps)) in
      ap (node_text t (shown a)) (children_print ps g) ∙ node_text-term written t (form a) (shown a) ts (written_as a ts)

  level_printed : (y : Pattern-F L ((p : Pattern L) × IsPrinted p)) → Prints (tree_step form (map-Pattern L (Pattern L) PatternTree (tree_of form) (map-Pattern L ((p : Pattern L) × IsPrinted p) (Pattern L) (λ e. e.0) y))) (text_step shown t (map-Pattern L (Pattern L) (List ℕ) (pattern_text shown t) (map-Pattern L ((p : Pattern L) × IsPrinted p) (Pattern L) (λ e. e.0) y)))
  level_printed (Pattern-F.ENode a inner) = node_printed a inner.items
  level_printed (Pattern-F.PVar v) = λ g. absurd g
  level_printed (Pattern-F.Subst body place value) = λ g. absurd g

  pattern_printed : (p : Pattern L) → IsPrinted p
  pattern_printed = ind-Pattern L IsPrinted (λ x y is.
      let tree = fold-roll-Pattern L PatternTree (tree_step form) x in
      let text = fold-roll-Pattern L (List ℕ) (text_step shown t) x in
      let level = subst (λ z. Prints (tree_step form (map-Pattern L (Pattern L) PatternTree (tree_of form) z)) (text_step shown t (map-Pattern L (Pattern L) (List ℕ) (pattern_text shown t) z))) is (level_printed y) in
      subst (λ p. Prints p (pattern_text shown t (roll-Pattern L x))) (sym tree)
      (subst (λ bs. Prints (tree_step form (map-Pattern L (Pattern L) PatternTree (tree_of form) x)) bs) (sym text) level))

  pub patterns_print : (u : Term) (bs : List ℕ) → bs ≡ term_text written t u → PrintAs form shown t u bs
  patterns_print u bs is p of = pattern_printed p of.ground ∙ (ap (term_text written t) of.value ∙ sym is)
