-- A term that was read prints as its pattern, whose print reads as it.
use Rattle.std.proofs.Common.{◌≡◌, Bool, true, false, List, [], ◌∷◌, length, refl, subst, ap, ◌∙◌}
use Rattle.std.specs.Prelude.{Option, Some, None, ◌==◌, if◌then◌else◌}
use Rattle.std.specs.Str.{chars}
use Rattle.slotted_theory.specs.Term.{Term}
use Rattle.slotted_slots.specs.Syntax.{Element}
use Rattle.slotted_nodes.specs.Form.{Form, children}
use Rattle.slotted_languages.specs.Filled.{term_of}
use Rattle.slotted_patterns.specs.Outcome.{parsed}
use Rattle.slotted_patterns.specs.ReadAgain.{ReadsAsItself}
use Rattle.slotted_patterns.specs.Shown.{pattern_text}
use Rattle.slotted_patterns.specs.Tree.{PatternTree, enode, pvar, substitution, PatternRow, no_more, one_more}
use Rattle.slotted_patterns.specs.View.{tree_of}
use Rattle.slotted_terms.specs.AsTerm.{over, in_front, as_term, as_terms}
use Rattle.slotted_terms.specs.Parsed.{TextReads}
use Rattle.slotted_terms.specs.ReadAgain.{TermReadsAsItself}
use Rattle.slotted_terms.specs.Shown.{term_text, IsWrittenAs}
use Rattle.slotted_terms.specs.TermPattern.{IsPatternOf, ArePatternsOf}
use Rattle.slotted_terms.proofs.PatternPrints.{patterns_print}
use Rattle.slotted_terms.proofs.TermReadings.{reads_term}

-- a node that is a term, and patterns that are terms
over_parts : (f : Form) (o : Option (List Term)) (x : Term) → over f o ≡ Some x → (ts : List Term) × (o ≡ Some ts) × (term_of f ts ≡ x)
over_parts f None x e = absurd (cc)
over_parts f (Some ts) x e = by (length ts == length (children f.tree)) e
  where
    by : (b : Bool) → (if b then Some (term_of f ts) else None) ≡ Some x → (us : List Term) × (Some ts ≡ Some us) × (term_of f us ≡ x)
    by true h = (ts, refl, let h : ◌≡◌ {A = Option Term} (Some (term_of f ts)) (Some x) = h in cc)
    by false h = let h : ◌≡◌ {A = Option Term} None (Some x) = h in absurd (cc)

front_parts : (o : Option Term) (p : Option (List Term)) (ts : List Term) → in_front o p ≡ Some ts → (u : Term) × (us : List Term) × (o ≡ Some u) × (p ≡ Some us) × (u ∷ us ≡ ts)
front_parts (Some u) (Some us) ts e = (u, us, refl, refl, cc)
front_parts (Some u) None ts e = absurd (cc)
front_parts None p ts e = absurd (cc)

-- a pattern that is a term is a pattern of that term's nodes
mutual
  term_pattern : (p : PatternTree) (x : Term) → as_term p ≡ Some x → IsPatternOf p x
  term_pattern (enode f row) x e =
      let parts = over_parts f (as_terms row) x e in
      let inner = term_patterns row parts.0 parts.1 in
      record { ground = inner.ground; value = ap (term_of f) inner.value ∙ parts.2 }
  term_pattern (pvar v) x e = let e : ◌≡◌ {A = Option Term} None (Some x) = e in absurd (cc)
  term_pattern (substitution b y v) x e = let e : ◌≡◌ {A = Option Term} None (Some x) = e in absurd (cc)

  term_patterns : (row : PatternRow) (ts : List Term) → as_terms row ≡ Some ts → ArePatternsOf row ts
  term_patterns no_more ts e = record { ground = tt; value = let e : ◌≡◌ {A = Option (List Term)} (Some []) (Some ts) = e in cc }
  term_patterns (one_more p rest) ts e =
      let parts = front_parts (as_term p) (as_terms rest) ts e in
      let first = term_pattern p parts.0 parts.2 in
      let more = term_patterns rest parts.1 parts.3 in
      record { ground = (first.ground, more.ground); value = (λ i. first.value i ∷ more.value i) ∙ parts.4 }

-- where patterns read as themselves, so do terms
pub term_reads_again : {L : Type 0} (form : L → Form) (shown : L → List Element) (written : Term → List Element) → ((a : L) (us : List Term) → IsWrittenAs (form a) (shown a) (written (term_of (form a) us))) → (read : List Element → Option Form) → ReadsAsItself form shown read → TermReadsAsItself form written read
term_reads_again form shown written written_as read law t u bs x utf8 sound h =
    let again = law t u bs h.nodes utf8 sound h.reads in
    let printed : pattern_text shown u h.nodes ≡ term_text written u x = patterns_print form shown written written_as u x (term_text written u x) refl h.nodes (term_pattern (tree_of form h.nodes) x h.term) in
    subst (λ cs. TextReads read u (chars cs) (parsed x) u) printed (reads_term read u (chars (pattern_text shown u h.nodes)) u (tree_of form h.nodes) x again h.term)
