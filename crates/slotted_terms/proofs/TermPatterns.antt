-- The pattern of a term's nodes is that term, where no child is missing and none is too many.
use Rattle.std.proofs.Common.{◌≡◌, ℕ, zero, suc, List, [], ◌∷◌, ◌++◌, length, take, drop, refl, sym, ap, subst, ◌∙◌, arith, length-append}
use Rattle.std.specs.Prelude.{Some, ◌==◌}
use Rattle.std.proofs.lemmas.Bool.{eq-eqb}
use Rattle.std.proofs.lemmas.List.{length-drop, length-take}
use Rattle.slotted_theory.specs.Term.{Term}
use Rattle.slotted_nodes.specs.Form.{Tree, leaf, own, child, bind, scopes, children}
use Rattle.slotted_languages.specs.Filled.{filled, term_of}
use Rattle.slotted_patterns.specs.Tree.{PatternTree, enode, pvar, substitution, PatternRow, no_more, one_more, row_of}
use Rattle.slotted_terms.specs.AsTerm.{over, in_front, as_term, as_terms}
use Rattle.slotted_terms.specs.TermPattern.{term_in, terms_in, IsGround, AreGround, IsPatternOf, ArePatternsOf}
use Rattle.slotted_terms.specs.Valid.{IsWhole}
use Rattle.slotted_terms.proofs.AsTerms.{counted}

-- no child is missing in any of the terms, and none is too many
abbrev pub AreWhole : List Term → Type 0
AreWhole [] = Unit {0}
AreWhole (t ∷ ts) = IsWhole t.args × AreWhole ts

pub AreWhole-join : (n : ℕ) (us : List Term) → AreWhole (take n us) → AreWhole (drop n us) → AreWhole us
AreWhole-join zero us h k = k
AreWhole-join (suc n) [] h k = tt
AreWhole-join (suc n) (u ∷ us) h k = (h.0, AreWhole-join n us h.1 k)

-- a tree that is whole has as many terms as children, each of which is whole
pub filled_whole : (tree : Tree) (xs : List ℕ) (us : List Term) → IsWhole (filled tree xs us) → (length us ≡ length (children tree)) × AreWhole us
filled_whole leaf xs [] w = (refl, tt)
filled_whole leaf xs (u ∷ us) w = absurd (omega (arith, w.0))
filled_whole (own r) xs us w = filled_whole r (drop 1 xs) us w
filled_whole (child i ks r) xs [] w = absurd (omega (arith, w.0))
filled_whole (child i ks r) xs (u ∷ us) w =
    let rest = filled_whole r (drop (length ks) xs) us w.2 in
    (ap suc rest.0, (w.1, rest.1))
filled_whole (bind t r) xs us w =
    let n = length (children t) in
    let m = length (scopes t) in
    let inner = filled_whole t (take m (drop 1 xs)) (take n us) w.0 in
    let rest = filled_whole r (drop m (drop 1 xs)) (drop n us) w.1 in
    (omega (arith, inner.0, rest.0, length-take n us, length-drop n us, length-append (children t) (children r)), AreWhole-join n us inner.1 rest.1)

mutual
  term_whole : (p : PatternTree) → IsGround p → IsWhole (term_in p).args → as_term p ≡ Some (term_in p)
  term_whole (enode f row) g w =
      let parts = filled_whole f.tree f.names (terms_in row) w in
      ap (over f) (terms_whole row g parts.1) ∙ counted (length (terms_in row) == length (children f.tree)) (term_of f (terms_in row)) (eq-eqb (length (terms_in row)) (length (children f.tree)) parts.0)
  term_whole (pvar v) g w = absurd g
  term_whole (substitution b x t) g w = absurd g

  terms_whole : (row : PatternRow) → AreGround row → AreWhole (terms_in row) → as_terms row ≡ Some (terms_in row)
  terms_whole no_more g w = refl
  terms_whole (one_more p rest) g w =
      ap (λ o. in_front o (as_terms rest)) (term_whole p g.0 w.0) ∙ ap (in_front (Some (term_in p))) (terms_whole rest g.1 w.1)

pub pattern_whole : (p : PatternTree) (t : Term) → IsPatternOf p t → IsWhole t.args → as_term p ≡ Some t
pattern_whole p t h w = term_whole p h.ground (subst (λ u. IsWhole u.args) (sym h.value) w) ∙ ap Some h.value

-- one more pattern of a term
ground_more : (ps : List PatternTree) (p : PatternTree) → AreGround (row_of ps) → IsGround p → AreGround (row_of (ps ++ p ∷ []))
ground_more [] p g h = (h, tt)
ground_more (q ∷ ps) p g h = (g.0, ground_more ps p g.1 h)

terms_more : (ps : List PatternTree) (p : PatternTree) → terms_in (row_of (ps ++ p ∷ [])) ≡ terms_in (row_of ps) ++ term_in p ∷ []
terms_more [] p = refl
terms_more (q ∷ ps) p = ap (λ ts. term_in q ∷ ts) (terms_more ps p)

pub patterns_more : (ps : List PatternTree) (p : PatternTree) (ts : List Term) (t : Term) → ArePatternsOf (row_of ps) ts → IsPatternOf p t → ArePatternsOf (row_of (ps ++ p ∷ [])) (ts ++ t ∷ [])
patterns_more ps p ts t h k = record {
  ground = ground_more ps p h.ground k.ground;
  value = terms_more ps p ∙ (ap (λ us. us ++ term_in p ∷ []) h.value ∙ ap (λ u. ts ++ u ∷ []) k.value);
}

-- a whole term that is filled has as many children as it has places for them
pub whole_count : (t : Tree) (xs : List ℕ) (us : List Term) → IsWhole (filled t xs us) → length us ≡ length (children t)
whole_count t xs us w = (filled_whole t xs us w).0
