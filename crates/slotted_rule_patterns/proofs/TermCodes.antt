-- A term as a pattern of nodes is the pattern of the term.
use Rattle.std.proofs.Common.{Bool, true, false, ◌≡◌, ℕ, suc, List, [], ◌∷◌, length, take, drop, map, refl, sym, ap, ◌∙◌, arith, slice_index, length-append}
use Rattle.std.specs.Prelude.{Option, Some, None, ◌==◌, if◌then◌else◌}
use Rattle.std.proofs.lemmas.Bool.{eqb-true}
use Rattle.std.proofs.lemmas.List.{length-map, length-take, length-drop, take-map, drop-map}
use Rattle.slotted_theory.specs.Term.{Term}
use Rattle.slotted_nodes.specs.Form.{Form, Tree, leaf, own, child, bind, scopes, children}
use Rattle.slotted_languages.specs.Filled.{filled, term_of}
use Rattle.slotted_patterns.specs.Tree.{PatternTree, enode, pvar, substitution, PatternRow, no_more, one_more}
use Rattle.slotted_terms.specs.AsTerm.{over, in_front, as_term, as_terms}
use Rattle.slotted_model_rules.specs.Patterns.{pattern_node, own_name, child_pattern, binding, pattern_args, pattern_of}
use Rattle.slotted_rule_patterns.specs.PatternCode.{filled_pattern, pattern_in, patterns_in}
use Rattle.slotted_rule_patterns.proofs.Parts.{node-made, first-made}

-- the arguments over terms
pub filled_pattern-terms : (u : Tree) (xs : List ℕ) (ts : List Term) → length ts ≡ length (children u) → filled_pattern u xs (map pattern_of ts) ≡ pattern_args (filled u xs ts)
filled_pattern-terms leaf xs [] h = refl
filled_pattern-terms leaf xs (t ∷ ts) h = absurd (omega arith)
filled_pattern-terms (own r) xs ts h = ap (own_name (slice_index xs 0)) (filled_pattern-terms r (drop 1 xs) ts h)
filled_pattern-terms (child i ks r) xs [] h = absurd (omega arith)
filled_pattern-terms (child i ks r) xs (t ∷ ts) h = ap (child_pattern (pattern_of t)) (filled_pattern-terms r (drop (length ks) xs) ts (omega arith))
filled_pattern-terms (bind u r) xs ts h =
    let n = length (scopes u) in
    let k = length (children u) in
    let all = length-append (children u) (children r) in
    let inner = filled_pattern-terms u (take n (drop 1 xs)) (take k ts) (omega (arith, length-take k ts)) in
    let rest = filled_pattern-terms r (drop n (drop 1 xs)) (drop k ts) (omega (arith, length-drop k ts)) in
    λ i. binding (slice_index xs 0) ((ap (filled_pattern u (take n (drop 1 xs))) (take-map pattern_of k ts) ∙ inner) i) ((ap (filled_pattern r (drop n (drop 1 xs))) (drop-map pattern_of k ts) ∙ rest) i)

-- t is the term of the node f over terms that o has
record IsTermOver (f : Form) (o : Option (List Term)) (t : Term) : Type 0 where
  pub terms : List Term
  pub are : o ≡ Some terms
  pub count : length terms ≡ length (children f.tree)
  pub is : t ≡ term_of f terms

over-parts : (f : Form) (o : Option (List Term)) (t : Term) → over f o ≡ Some t → IsTermOver f o t
over-parts f None t e = absurd (cc)
over-parts f (Some ts) t e = by (length ts == length (children f.tree)) refl e
  where
    by : (b : Bool) → (length ts == length (children f.tree)) ≡ b → (if b then Some (term_of f ts) else None) ≡ Some t → IsTermOver f (Some ts) t
    by true h e = record { terms = ts; are = refl; count = eqb-true (length ts) (length (children f.tree)) h; is = cc }
    by false h e = absurd (cc)

-- the terms ts are one and those after it
record IsTermBefore (p : Option Term) (o : Option (List Term)) (ts : List Term) : Type 0 where
  pub first : Term
  pub others : List Term
  pub first_is : p ≡ Some first
  pub others_are : o ≡ Some others
  pub is : ts ≡ first ∷ others

front-parts : (p : Option Term) (o : Option (List Term)) (ts : List Term) → in_front p o ≡ Some ts → IsTermBefore p o ts
front-parts None o ts e = absurd (cc)
front-parts (Some t) None ts e = absurd (cc)
front-parts (Some t) (Some us) ts e = record { first = t; others = us; first_is = refl; others_are = refl; is = cc }

mutual
  pub pattern_in-term : (p : PatternTree) (t : Term) → as_term p ≡ Some t → pattern_in p ≡ Some (pattern_of t)
  pattern_in-term (enode f row) t e =
      let h = over-parts f (as_terms row) t e in
      node-made f row (map pattern_of h.terms) (patterns_in-terms row h.terms h.are) (length-map h.terms pattern_of ∙ h.count)
      ∙ (ap (λ a. Some (pattern_node (suc f.operator) f.payloads a)) (filled_pattern-terms f.tree f.names h.terms h.count)
      ∙ ap (λ u. Some (pattern_of u)) (sym h.is))
  pattern_in-term (pvar v) t e = absurd (cc)
  pattern_in-term (substitution b x s) t e = absurd (cc)

  patterns_in-terms : (row : PatternRow) (ts : List Term) → as_terms row ≡ Some ts → patterns_in row ≡ Some (map pattern_of ts)
  patterns_in-terms no_more ts e = let none : [] ≡ ts = cc in ap (λ (us : List Term). Some (map pattern_of us)) none
  patterns_in-terms (one_more p rest) ts e =
      let h = front-parts (as_term p) (as_terms rest) ts e in
      first-made p rest (pattern_of h.first) (map pattern_of h.others) (pattern_in-term p h.first h.first_is) (patterns_in-terms rest h.others h.others_are)
      ∙ ap (λ us. Some (map pattern_of us)) (sym h.is)
