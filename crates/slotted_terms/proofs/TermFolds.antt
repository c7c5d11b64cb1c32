-- What a recursion does down a term, a loop does along the list of the term's nodes. Taken from the end of the list, each node finds the terms
-- under it uppermost on a stack, and the term over them takes their place.
use Rattle.std.proofs.Common.{◌≡◌, ◌+◌, ◌<◌, ◌≤◌, ℕ, zero, suc, List, [], ◌∷◌, ◌++◌, length, map, get_or, refl, sym, ap, subst, ◌∙◌, arith, length-append}
use Rattle.std.proofs.lemmas.List.{length-map, map-append}
use Rattle.slotted_theory.specs.Term.{Term}
use Rattle.slotted_nodes.specs.Form.{Form, leaf}
use Rattle.slotted_languages.specs.Filled.{term_of}
use Rattle.slotted_patterns.specs.Subpatterns.{before_parts, parts, patterns_in, subpatterns, subpatterns_in}
use Rattle.slotted_patterns.specs.Tree.{PatternTree, enode, pvar, substitution, PatternRow, no_more, one_more}
use Rattle.slotted_patterns.proofs.Folds.{EachOf, Folds, folds-end, folds-inside, folds-parts, folds-start, folds-step}
use Rattle.slotted_terms.specs.Flat.{flat, flat_row, row_length}
use Rattle.slotted_terms.specs.TermPattern.{term_in, terms_in, IsGround, AreGround, IsPatternOf}

-- the node of a pattern, with how many patterns stand under it
abbrev head : PatternTree → Form × ℕ
head (enode f row) = (f, row_length row)
head (pvar v) = (record { operator = 0; payloads = []; tree = leaf; names = [] }, 0)
head (substitution b x t) = (record { operator = 0; payloads = []; tree = leaf; names = [] }, 0)

mutual
  heads-flat : (p : PatternTree) → IsGround p → map head (subpatterns p) ≡ flat p
  heads-flat (enode f row) g = ap (λ l. (f, row_length row) ∷ l) (heads-row row g)
  heads-flat (pvar v) g = absurd g
  heads-flat (substitution b x t) g = absurd g

  heads-row : (row : PatternRow) → AreGround row → map head (subpatterns_in row) ≡ flat_row row
  heads-row no_more g = refl
  heads-row (one_more p rest) g =
      map-append head (subpatterns_in rest) (subpatterns p) ∙ (λ i. heads-row rest g.1 i ++ heads-flat p g.0 i)

-- the last of a list under a map
record Last {A B : Type 0} (f : A → B) (all : List A) (rest : List B) (y : B) : Type 0 where
  before : List A
  last : A
  whole : all ≡ before ++ last ∷ []
  others : map f before ≡ rest
  value : f last ≡ y

last-of : {A B : Type 0} (f : A → B) (all : List A) (rest : List B) (y : B) → map f all ≡ rest ++ y ∷ [] → Last f all rest y
last-of f [] [] y e = absurd (omega (arith, ap length e))
last-of f [] (z ∷ rest) y e = absurd (omega (arith, ap length e))
last-of f (x ∷ []) [] y e = let v : f x ≡ y = cc in record { before = []; last = x; whole = refl; others = refl; value = v }
last-of f (x ∷ w ∷ all) [] y e = absurd (omega (arith, ap length e))
last-of f (x ∷ all) (z ∷ rest) y e =
    let v : f x ≡ z = cc in
    let more : map f all ≡ rest ++ y ∷ [] = cc in
    let l = last-of f all rest y more in
    record { before = x ∷ l.before; last = l.last; whole = ap (λ xs. x ∷ xs) l.whole; others = (λ i. v i ∷ l.others i); value = l.value }

record SomeLast {A : Type 0} (all : List A) : Type 0 where
  before : List A
  last : A
  whole : all ≡ before ++ last ∷ []

terms-are : (row : PatternRow) → terms_in row ≡ map term_in (patterns_in row)
terms-are no_more = refl
terms-are (one_more p rest) = ap (λ ts. term_in p ∷ ts) (terms-are rest)

length-in : (row : PatternRow) → length (patterns_in row) ≡ row_length row
length-in no_more = refl
length-in (one_more p rest) = ap suc (length-in rest)

ground-parts : (q : PatternTree) → IsGround q → EachOf IsGround (parts q)
ground-parts (enode f row) g = each row g
  where
    each : (row : PatternRow) → AreGround row → EachOf IsGround (patterns_in row)
    each no_more g = tt
    each (one_more p rest) g = (g.0, each rest g.1)
ground-parts (pvar v) g = absurd g
ground-parts (substitution b x t) g = absurd g

-- of the nodes of the term root these are left, and the terms that were completed stand on the stack
pub record TermFolds (root : Term) (left : List (Form × ℕ)) (done : List Term) : Type 0 where
  pub tree : PatternTree
  pub is : IsPatternOf tree root
  pub rest : List PatternTree
  pub heads : map head rest ≡ left
  pub stack : List PatternTree
  pub folds : Folds tree rest stack
  pub terms : done ≡ map term_in stack

pub term_folds-start : (root : Term) (left : List (Form × ℕ)) (tree : PatternTree) → IsPatternOf tree root → left ≡ flat tree → TermFolds root left []
term_folds-start root left tree is all = record {
  tree = tree;
  is = is;
  rest = subpatterns tree;
  heads = heads-flat tree is.ground ∙ sym all;
  stack = [];
  folds = folds-start tree;
  terms = refl;
}

pub term_folds-end : (root : Term) (done : List Term) → TermFolds root [] done → done ≡ root ∷ []
term_folds-end root done h = h.terms ∙ (ap (map term_in) (folds-end h.tree h.stack (subst (λ l. Folds h.tree l h.stack) (none h.rest h.heads) h.folds)) ∙ ap (λ t. t ∷ []) h.is.value)
  where
    none : (ps : List PatternTree) → map head ps ≡ [] → ps ≡ []
    none [] e = refl
    none (p ∷ ps) e = absurd (omega (arith, ap length e))

-- the last node finds the terms under it uppermost, and the term over them takes their place
pub record TermStep (root : Term) (f : Form) (n : ℕ) (left : List (Form × ℕ)) (done : List Term) : Type 1 where
  pub below : List Term
  pub under : List Term
  pub split : done ≡ below ++ under
  pub count : length under ≡ n
  pub next : TermFolds root left (below ++ term_of f under ∷ [])
  -- what holds of root, and of the terms under each node with the term over them, holds of this one
  pub inside : (P : Term → Type 0) → ((g : Form) (us : List Term) → P (term_of g us) → (i : ℕ) (c : Term) → i < length us → c ≡ get_or us i c → P c) → P root → P (term_of f under)

pub term_folds-step : (root : Term) (f : Form) (n : ℕ) (left : List (Form × ℕ)) (done : List Term) → TermFolds root (left ++ (f, n) ∷ []) done → TermStep root f n left done
term_folds-step root f n left done h =
    let l = last-of head h.rest left (f, n) h.heads in
    let folds = subst (λ r. Folds h.tree r h.stack) l.whole h.folds in
    let ground = folds-inside IsGround ground-parts h.tree l.last l.before h.stack h.is.ground folds in
    node l.last l.before folds l.others l.value ground
  where
    node : (x : PatternTree) (before : List PatternTree) → Folds h.tree (before ++ x ∷ []) h.stack → map head before ≡ left → head x ≡ (f, n) → IsGround x → TermStep root f n left done
    node (pvar v) before folds others value ground = absurd ground
    node (substitution b x t) before folds others value ground = absurd ground
    node (enode e row) before folds others value ground =
        let x : PatternTree = enode e row in
        let same : e ≡ f = ap (λ (y : Form × ℕ). y.0) value in
        let count : row_length row ≡ n = ap (λ (y : Form × ℕ). y.1) value in
        let first = before_parts x h.stack in
        let under = map term_in (patterns_in row) in
        let over : term_in x ≡ term_of f under = (λ i. term_of (same i) (terms-are row i)) in
        record {
          below = map term_in first;
          under = under;
          split = h.terms ∙ (ap (map term_in) (folds-parts h.tree x before h.stack folds) ∙ map-append term_in first (patterns_in row));
          count = length-map (patterns_in row) term_in ∙ (length-in row ∙ count);
          next = record {
            tree = h.tree;
            is = h.is;
            rest = before;
            heads = others;
            stack = first ++ x ∷ [];
            folds = folds-step h.tree x before h.stack folds;
            terms = sym (map-append term_in first (x ∷ []) ∙ ap (λ t. map term_in first ++ t ∷ []) over);
          };
          inside = λ P inward holds.
              subst P over (folds-inside (λ q. IsGround q × P (term_in q)) (inward-parts P inward) h.tree x before h.stack (h.is.ground, subst P (sym h.is.value) holds) folds).1;
        }
      where
        each-in : (P : Term → Type 0) (row : PatternRow) → AreGround row → ((i : ℕ) (c : Term) → i < length (terms_in row) → c ≡ get_or (terms_in row) i c → P c) → EachOf (λ q. IsGround q × P (term_in q)) (patterns_in row)
        each-in P no_more g h = tt
        each-in P (one_more p rest) g h =
            ((g.0, h 0 (term_in p) (omega arith) refl), each-in P rest g.1 (λ i c lt is. h (suc i) c (omega (arith, lt)) is))

        inward-parts : (P : Term → Type 0) → ((g : Form) (us : List Term) → P (term_of g us) → (i : ℕ) (c : Term) → i < length us → c ≡ get_or us i c → P c) → (q : PatternTree) → IsGround q × P (term_in q) → EachOf (λ r. IsGround r × P (term_in r)) (parts q)
        inward-parts P inward (enode g row) k = each-in P row k.0 (inward g (terms_in row) k.1)
        inward-parts P inward (pvar v) k = absurd k.0
        inward-parts P inward (substitution b x t) k = absurd k.0

-- what some terms weigh together
abbrev pub weigh : (Term → ℕ) → List Term → ℕ
weigh w [] = 0
weigh w (t ∷ ts) = w t + weigh w ts

pub weigh-append : (w : Term → ℕ) (ts us : List Term) → weigh w (ts ++ us) ≡ weigh w ts + weigh w us
weigh-append w [] us = omega arith
weigh-append w (t ∷ ts) us = omega (arith, weigh-append w ts us)

-- where no term weighs less than those under it together, what stands on the stack weighs no more than root
module _ (root : Term) (P : Term → Type 0) (inward : (g : Form) (us : List Term) → P (term_of g us) → (i : ℕ) (c : Term) → i < length us → c ≡ get_or us i c → P c) (holds : P root)
    (w : Term → ℕ) (heavy : (g : Form) (us : List Term) → P (term_of g us) → weigh w us ≤ w (term_of g us)) where
  weighs-in : (k : ℕ) (left : List (Form × ℕ)) (done : List Term) → length left ≡ k → TermFolds root left done → weigh w done ≤ w root
  weighs-in zero [] done n h = omega (arith, ap (weigh w) (term_folds-end root done h))
  weighs-in zero (x ∷ left) done n h = absurd (omega (arith, n))
  weighs-in (suc k) [] done n h = absurd (omega (arith, n))
  weighs-in (suc k) (x ∷ left) done n h =
      let l = some-last x left in
      let s = term_folds-step root l.last.0 l.last.1 l.before done (subst (λ r. TermFolds root r done) l.whole h) in
      let m : length l.before ≡ k = omega (arith, n, ap length l.whole, length-append l.before (l.last ∷ [])) in
      let rest = weighs-in k l.before (s.below ++ term_of l.last.0 s.under ∷ []) m s.next in
      omega (arith, rest, ap (weigh w) s.split, weigh-append w s.below s.under, weigh-append w s.below (term_of l.last.0 s.under ∷ []), heavy l.last.0 s.under (s.inside P inward holds))
    where
      some-last : (x : Form × ℕ) (left : List (Form × ℕ)) → SomeLast (x ∷ left)
      some-last x [] = record { before = []; last = x; whole = refl }
      some-last x (y ∷ left) = let l = some-last y left in record { before = x ∷ l.before; last = l.last; whole = ap (λ r. x ∷ r) l.whole }

  pub weighs : (left : List (Form × ℕ)) (done : List Term) → TermFolds root left done → weigh w done ≤ w root
  weighs left done h = weighs-in (length left) left done refl h
