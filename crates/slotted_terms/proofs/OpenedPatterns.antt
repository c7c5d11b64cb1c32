-- A pattern is taken apart to its nodes, if it is a term.
use Rattle.std.proofs.Common.{◌≡◌, List, [], ◌∷◌, ◌++◌, length, refl, sym, ap, subst, ◌∙◌, true, false, Bool}
use Rattle.std.specs.Prelude.{Option, Some, None, IsSome, is_some, ◌==◌, ◌&&◌, if◌then◌else◌}
use Rattle.std.proofs.lemmas.Bool.{eq-eqb, ne_eqb}
use Rattle.std.proofs.lemmas.List.{length-map}
use Rattle.slotted_theory.specs.Term.{Term}
use Rattle.slotted_nodes.specs.Form.{Form, children}
use Rattle.slotted_languages.specs.Filled.{term_of}
use Rattle.slotted_patterns.specs.Tree.{PatternTree, enode, pvar, substitution, PatternRow, no_more, one_more, row_of}
use Rattle.slotted_terms.specs.AsTerm.{over, in_front, as_term, as_terms}
use Rattle.slotted_terms.specs.Flat.{flat, flat_row}
use Rattle.slotted_terms.specs.TermPattern.{term_in, terms_in, IsGround, AreGround}
use Rattle.slotted_terms.proofs.AsTerms.{counted, miscounted}
use Rattle.slotted_terms.proofs.FlatTrees.{flat_append, row_length-row, terms_of}

chosen : (b : Bool) (t : Term) → IsSome (if b then Some t else None) → (if b then Some t else None) ≡ Some t
chosen true t h = refl
chosen false t h = absurd (cc)

over-some : (f : Form) (o : Option (List Term)) → IsSome (over f o) → IsSome o
over-some f (Some ts) h = refl
over-some f None h = absurd (cc)

first-some : (o : Option Term) (m : Option (List Term)) → IsSome (in_front o m) → IsSome o
first-some (Some t) m h = refl
first-some None m h = absurd (cc)

rest-some : (o : Option Term) (m : Option (List Term)) → IsSome (in_front o m) → IsSome m
rest-some (Some t) (Some ts) h = refl
rest-some (Some t) None h = absurd (cc)
rest-some None m h = absurd (cc)

-- a pattern that is a term is this one, and ground
mutual
  pub some_term : (p : PatternTree) → IsSome (as_term p) → as_term p ≡ Some (term_in p)
  some_term (enode f row) h =
      let inside = some_terms row (over-some f (as_terms row) h) in
      let whole : IsSome (over f (Some (terms_in row))) = subst (λ o. IsSome (over f o)) inside h in
      ap (over f) inside ∙ chosen (length (terms_in row) == length (children f.tree)) (term_of f (terms_in row)) whole
  some_term (pvar v) h = absurd (cc)
  some_term (substitution b x t) h = absurd (cc)

  some_terms : (row : PatternRow) → IsSome (as_terms row) → as_terms row ≡ Some (terms_in row)
  some_terms no_more h = refl
  some_terms (one_more p rest) h =
      (λ i. in_front (some_term p (first-some (as_term p) (as_terms rest) h) i) (some_terms rest (rest-some (as_term p) (as_terms rest) h) i))

mutual
  pub some_ground : (p : PatternTree) → IsSome (as_term p) → IsGround p
  some_ground (enode f row) h = some_grounds row (over-some f (as_terms row) h)
  some_ground (pvar v) h = absurd (cc)
  some_ground (substitution b x t) h = absurd (cc)

  some_grounds : (row : PatternRow) → IsSome (as_terms row) → AreGround row
  some_grounds no_more h = tt
  some_grounds (one_more p rest) h =
      (some_ground p (first-some (as_term p) (as_terms rest) h), some_grounds rest (rest-some (as_term p) (as_terms rest) h))

-- whether some patterns are all terms
abbrev pub are_terms : List PatternTree → Bool
are_terms ps = is_some (as_terms (row_of ps))

front-is : (o : Option Term) (m : Option (List Term)) → is_some (in_front o m) ≡ (is_some o && is_some m)
front-is (Some t) (Some ts) = refl
front-is (Some t) None = refl
front-is None m = refl

and-in-turn : (a b c : Bool) → (a && (b && c)) ≡ ((a && b) && c)
and-in-turn true b c = refl
and-in-turn false b c = refl

and-last : (a : Bool) → (a && true) ≡ a
and-last true = refl
and-last false = refl

and-fails : (a : Bool) → (a && false) ≡ false
and-fails true = refl
and-fails false = refl

are_terms-append : (a b : List PatternTree) → are_terms (a ++ b) ≡ (are_terms a && are_terms b)
are_terms-append [] b = refl
are_terms-append (p ∷ a) b =
    front-is (as_term p) (as_terms (row_of (a ++ b)))
    ∙ (ap (λ x. is_some (as_term p) && x) (are_terms-append a b)
    ∙ (and-in-turn (is_some (as_term p)) (are_terms a) (are_terms b) ∙ ap (λ x. x && are_terms b) (sym (front-is (as_term p) (as_terms (row_of a))))))

are_terms-one : (p : PatternTree) → are_terms (p ∷ []) ≡ is_some (as_term p)
are_terms-one p = front-is (as_term p) (Some []) ∙ and-last (is_some (as_term p))

-- a node over as many patterns as it has children is a term if they are terms
node-is : (f : Form) (ps : List PatternTree) (o : Option (List Term)) → as_terms (row_of ps) ≡ o → length ps ≡ length (children f.tree) → is_some (over f o) ≡ is_some o
node-is f ps None e n = refl
node-is f ps (Some ts) e n =
    let same : Some ts ≡ Some (terms_in (row_of ps)) = sym e ∙ some_terms (row_of ps) (ap is_some e) in
    let ts-is : ts ≡ terms_in (row_of ps) = cc in
    let count : length ts ≡ length (children f.tree) = ap length (ts-is ∙ terms_of ps) ∙ (length-map ps term_in ∙ n) in
    ap is_some (counted (length ts == length (children f.tree)) (term_of f ts) (eq-eqb (length ts) (length (children f.tree)) count))

miscounted-is : (f : Form) (ps : List PatternTree) (o : Option (List Term)) → as_terms (row_of ps) ≡ o → (length ps ≡ length (children f.tree) → ⊥) → over f o ≡ None
miscounted-is f ps None e n = refl
miscounted-is f ps (Some ts) e n =
    let same : Some ts ≡ Some (terms_in (row_of ps)) = sym e ∙ some_terms (row_of ps) (ap is_some e) in
    let ts-is : ts ≡ terms_in (row_of ps) = cc in
    miscounted (length ts == length (children f.tree)) (term_of f ts)
    (ne_eqb (length ts) (length (children f.tree)) (λ m. n (sym (ap length (ts-is ∙ terms_of ps) ∙ length-map ps term_in) ∙ m)))

-- a node over more or fewer patterns than it has children is none
pub node_miscounted : (p : PatternTree) (f : Form) (ps : List PatternTree) → p ≡ enode f (row_of ps) → (length ps ≡ length (children f.tree) → ⊥) → as_term p ≡ None
node_miscounted p f ps whole n = ap as_term whole ∙ miscounted-is f ps (as_terms (row_of ps)) refl n

module _ (rest : List PatternTree) (p : PatternTree) where
  -- where the last is no term, not all are
  pub last-fails : as_term p ≡ None → are_terms (rest ++ p ∷ []) ≡ false
  last-fails e =
      are_terms-append rest (p ∷ []) ∙ (ap (λ x. are_terms rest && x) (are_terms-one p ∙ ap is_some e) ∙ and-fails (are_terms rest))

  module _ (f : Form) (ps : List PatternTree) (whole : p ≡ enode f (row_of ps)) where
    -- where it is a node, it gives way to those under it
    pub last-opens : length ps ≡ length (children f.tree) → are_terms (rest ++ p ∷ []) ≡ are_terms (rest ++ ps)
    last-opens n =
        are_terms-append rest (p ∷ [])
        ∙ (ap (λ x. are_terms rest && x) (are_terms-one p ∙ (ap (λ q. is_some (as_term q)) whole ∙ node-is f ps (as_terms (row_of ps)) refl n)) ∙ sym (are_terms-append rest ps))

    pub last-flat : flat_row (row_of (rest ++ p ∷ [])) ≡ (f, length ps) ∷ flat_row (row_of (rest ++ ps))
    last-flat =
        flat_append rest (p ∷ [])
        ∙ (ap (λ q. flat q ++ flat_row (row_of rest)) whole
        ∙ ((λ i. (f, row_length-row ps i) ∷ (flat_row (row_of ps) ++ flat_row (row_of rest))) ∙ ap (λ l. (f, length ps) ∷ l) (sym (flat_append rest ps))))

pub none-of : (o : Option Term) → is_some o ≡ false → o ≡ None
none-of (Some t) h = absurd (cc)
none-of None h = refl
