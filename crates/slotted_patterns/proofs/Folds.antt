-- Patterns that are built from below along the list of their subpatterns, by a stack: where the list is taken from its end, each pattern finds
-- its parts uppermost. So a loop along the list does what a recursion does.
use Rattle.std.proofs.Common.{◌≡◌, ◌-◌, ◌+◌, ◌≤◌, suc, List, [], ◌∷◌, ◌++◌, length, take, drop, refl, sym, ap, subst, ◌∙◌, arith, append_assoc, append-nil, length-append}
use Rattle.std.proofs.Math.Seq.{take-append_seam, drop-append_seam}
use Rattle.slotted_patterns.specs.Tree.{PatternTree, enode, pvar, substitution, PatternRow, no_more, one_more, row_of}
use Rattle.slotted_patterns.specs.Subpatterns.{before_parts, parts, patterns_in, subpatterns, subpatterns_in, EndsInParts}

pub patterns_in-row : (ps : List PatternTree) → patterns_in (row_of ps) ≡ ps
patterns_in-row [] = refl
patterns_in-row (p ∷ ps) = ap (λ qs. p ∷ qs) (patterns_in-row ps)

-- the subpatterns of a row, one part after another
in-append : (a b : List PatternTree) → subpatterns_in (row_of (a ++ b)) ≡ subpatterns_in (row_of b) ++ subpatterns_in (row_of a)
in-append [] b = sym (append-nil (subpatterns_in (row_of b)))
in-append (p ∷ a) b = ap (λ l. l ++ subpatterns p) (in-append a b) ∙ append_assoc (subpatterns_in (row_of b)) (subpatterns_in (row_of a)) (subpatterns p)

pub row_of-in : (row : PatternRow) → row_of (patterns_in row) ≡ row
row_of-in no_more = refl
row_of-in (one_more p rest) = ap (one_more p) (row_of-in rest)

opened : (p : PatternTree) → subpatterns p ≡ p ∷ subpatterns_in (row_of (parts p))
opened (enode f row) = ap (λ r. enode f row ∷ subpatterns_in r) (sym (row_of-in row))
opened (pvar v) = refl
opened (substitution b x t) = ap (λ l. substitution b x t ∷ l) (sym (append_assoc (subpatterns t) (subpatterns x) (subpatterns b)))

-- the last of some patterns gives way to its parts
pub inside-step : (rest : List PatternTree) (p : PatternTree) → subpatterns_in (row_of (rest ++ p ∷ [])) ≡ p ∷ subpatterns_in (row_of (rest ++ parts p))
inside-step rest p =
    in-append rest (p ∷ []) ∙ (ap (λ l. l ++ subpatterns_in (row_of rest)) (opened p) ∙ ap (λ l. p ∷ l) (sym (in-append rest (parts p))))

-- where the pattern was found, the list goes on with its parts
pub inside-walk : (found now rest left next all : List PatternTree) (p : PatternTree) → left ≡ rest ++ p ∷ [] → next ≡ rest ++ parts p → now ≡ found ++ p ∷ [] → found ++ subpatterns_in (row_of left) ≡ all → now ++ subpatterns_in (row_of next) ≡ all
inside-walk found now rest left next all p last opens more before =
    (λ i. more i ++ subpatterns_in (row_of (opens i)))
    ∙ (append_assoc found (p ∷ []) (subpatterns_in (row_of (rest ++ parts p)))
    ∙ (ap (λ l. found ++ l) (sym (ap (λ l. subpatterns_in (row_of l)) last ∙ inside-step rest p)) ∙ before))

pub inside-fewer : (rest left next : List PatternTree) (p : PatternTree) → left ≡ rest ++ p ∷ [] → next ≡ rest ++ parts p → suc (length (subpatterns_in (row_of next))) ≤ length (subpatterns_in (row_of left))
inside-fewer rest left next p last opens =
    omega (arith, ap (λ l. length (subpatterns_in (row_of l))) opens, ap (λ l. length (subpatterns_in (row_of l))) last, ap length (inside-step rest p))

-- what stands on the stack once these were taken from the end of a list
abbrev pub built : List PatternTree → List PatternTree
built [] = []
built (p ∷ seen) = before_parts p (built seen) ++ p ∷ []

-- each finds its parts uppermost
abbrev pub Fit : List PatternTree → Type 0
Fit [] = Unit {0}
Fit (p ∷ seen) = EndsInParts p (built seen) × Fit seen

-- two lists with equally many at their ends
pub same_ends : {A : Type 0} (xs ys a b : List A) → xs ++ a ≡ ys ++ b → length a ≡ length b → (xs ≡ ys) × (a ≡ b)
same_ends xs ys a b e n =
    let m : length xs ≡ length ys = omega (arith, ap length e, length-append xs a, length-append ys b, n) in (
      sym (take-append_seam xs a) ∙ ((λ i. take (m i) (e i)) ∙ take-append_seam ys b),
      sym (drop-append_seam xs a) ∙ ((λ i. drop (m i) (e i)) ∙ drop-append_seam ys b),
    )

-- the parts that a list ends in, and how many stand before them
pub ends-length : (p : PatternTree) (all : List PatternTree) → EndsInParts p all → length all ≡ length (before_parts p all) + length (parts p)
ends-length p all h = ap length h ∙ length-append (before_parts p all) (parts p)

pub ends-drop : (p : PatternTree) (all : List PatternTree) → EndsInParts p all → drop (length all - length (parts p)) all ≡ parts p
ends-drop p all h =
    let at : length all - length (parts p) ≡ length (before_parts p all) = omega (arith, ends-length p all h) in
    (λ i. drop (at i) (h i)) ∙ drop-append_seam (before_parts p all) (parts p)

seam : (xs ps : List PatternTree) → take (length (xs ++ ps) - length ps) (xs ++ ps) ≡ xs
seam xs ps =
    let at : length (xs ++ ps) - length ps ≡ length xs = omega (arith, length-append xs ps) in
    ap (λ k. take k (xs ++ ps)) at ∙ take-append_seam xs ps

-- where its parts are uppermost, a pattern finds them, and takes their place
ends : (p : PatternTree) (xs all : List PatternTree) → all ≡ xs ++ parts p → EndsInParts p all
ends p xs all is = is ∙ ap (λ ys. ys ++ parts p) (sym (ap (before_parts p) is ∙ seam xs (parts p)))

closes : (p : PatternTree) (xs all : List PatternTree) → all ≡ xs ++ parts p → before_parts p all ++ p ∷ [] ≡ xs ++ p ∷ []
closes p xs all is = ap (λ ys. ys ++ p ∷ []) (ap (before_parts p) is ∙ seam xs (parts p))

in-turn : {A : Type 0} (a b c s : List A) → (a ++ (b ++ c)) ++ s ≡ a ++ (b ++ (c ++ s))
in-turn a b c s = append_assoc a (b ++ c) s ∙ ap (λ l. a ++ l) (append_assoc b c s)

mutual
  built-then : (p : PatternTree) (s : List PatternTree) → built (subpatterns p ++ s) ≡ built s ++ p ∷ []
  built-then (enode f row) s = closes (enode f row) (built s) (built (subpatterns_in row ++ s)) (built-row row s)
  built-then (pvar v) s = closes (pvar v) (built s) (built s) (sym (append-nil (built s)))
  built-then (substitution b x t) s = closes (substitution b x t) (built s) (built ((subpatterns t ++ (subpatterns x ++ subpatterns b)) ++ s)) (
      ap built (in-turn (subpatterns t) (subpatterns x) (subpatterns b) s)
      ∙ (built-then t (subpatterns x ++ (subpatterns b ++ s))
      ∙ (ap (λ l. l ++ t ∷ []) (built-then x (subpatterns b ++ s) ∙ ap (λ l. l ++ x ∷ []) (built-then b s))
      ∙ (append_assoc (built s ++ b ∷ []) (x ∷ []) (t ∷ []) ∙ append_assoc (built s) (b ∷ []) (x ∷ t ∷ [])))))

  built-row : (row : PatternRow) (s : List PatternTree) → built (subpatterns_in row ++ s) ≡ built s ++ patterns_in row
  built-row no_more s = sym (append-nil (built s))
  built-row (one_more p rest) s =
      ap built (append_assoc (subpatterns_in rest) (subpatterns p) s)
      ∙ (built-row rest (subpatterns p ++ s) ∙ (ap (λ x. x ++ patterns_in rest) (built-then p s) ∙ append_assoc (built s) (p ∷ []) (patterns_in rest)))

built-three : (b x t : PatternTree) (s : List PatternTree) → built ((subpatterns t ++ (subpatterns x ++ subpatterns b)) ++ s) ≡ built s ++ (b ∷ x ∷ t ∷ [])
built-three b x t s =
    ap built (in-turn (subpatterns t) (subpatterns x) (subpatterns b) s)
    ∙ (built-then t (subpatterns x ++ (subpatterns b ++ s))
    ∙ (ap (λ l. l ++ t ∷ []) (built-then x (subpatterns b ++ s) ∙ ap (λ l. l ++ x ∷ []) (built-then b s))
    ∙ (append_assoc (built s ++ b ∷ []) (x ∷ []) (t ∷ []) ∙ append_assoc (built s) (b ∷ []) (x ∷ t ∷ []))))

mutual
  fit-then : (p : PatternTree) (s : List PatternTree) → Fit s → Fit (subpatterns p ++ s)
  fit-then (enode f row) s h = (ends (enode f row) (built s) _ (built-row row s), fit-row row s h)
  fit-then (pvar v) s h = (ends (pvar v) (built s) (built s) (sym (append-nil (built s))), h)
  fit-then (substitution b x t) s h = (
    ends (substitution b x t) (built s) (built ((subpatterns t ++ (subpatterns x ++ subpatterns b)) ++ s)) (built-three b x t s),
    subst Fit (sym (in-turn (subpatterns t) (subpatterns x) (subpatterns b) s)) (fit-then t (subpatterns x ++ (subpatterns b ++ s)) (fit-then x (subpatterns b ++ s) (fit-then b s h))),
  )

  fit-row : (row : PatternRow) (s : List PatternTree) → Fit s → Fit (subpatterns_in row ++ s)
  fit-row no_more s h = h
  fit-row (one_more p rest) s h =
      subst Fit (sym (append_assoc (subpatterns_in rest) (subpatterns p) s)) (fit-row rest (subpatterns p ++ s) (fit-then p s h))

fit-end : (a b : List PatternTree) → Fit (a ++ b) → Fit b
fit-end [] b h = h
fit-end (p ∷ a) b h = fit-end a b h.1

-- of the subpatterns of p these are left, and what was taken stands on the stack as done
pub record Folds (p : PatternTree) (left done : List PatternTree) : Type 0 where
  pub taken : List PatternTree
  pub all : subpatterns p ≡ left ++ taken
  pub stack : done ≡ built taken

pub folds-start : (p : PatternTree) → Folds p (subpatterns p) []
folds-start p = record { taken = []; all = sym (append-nil (subpatterns p)); stack = refl }

module _ (p x : PatternTree) (left done : List PatternTree) (h : Folds p (left ++ x ∷ []) done) where
  one-more : subpatterns p ≡ left ++ x ∷ h.taken
  one-more = h.all ∙ append_assoc left (x ∷ []) h.taken

  -- the next one finds its parts uppermost
  pub folds-parts : EndsInParts x done
  folds-parts =
      let fits : Fit (left ++ x ∷ h.taken) = subst Fit (append-nil (subpatterns p) ∙ one-more) (fit-then p [] tt) in
      subst (EndsInParts x) (sym h.stack) (fit-end left (x ∷ h.taken) fits).0

  -- and takes their place
  pub folds-step : Folds p left (before_parts x done ++ x ∷ [])
  folds-step = record { taken = x ∷ h.taken; all = one-more; stack = ap (λ ys. before_parts x ys ++ x ∷ []) h.stack }

-- at the end the whole stands on the stack
pub folds-end : (p : PatternTree) (done : List PatternTree) → Folds p [] done → done ≡ p ∷ []
folds-end p done h = h.stack ∙ (ap built (sym h.all ∙ sym (append-nil (subpatterns p))) ∙ built-then p [])

-- what holds of each of some patterns
abbrev pub EachOf : (PatternTree → Type 0) → List PatternTree → Type 0
EachOf P [] = Unit {0}
EachOf P (p ∷ ps) = P p × EachOf P ps

EachOf-join : (P : PatternTree → Type 0) (a b : List PatternTree) → EachOf P a → EachOf P b → EachOf P (a ++ b)
EachOf-join P [] b h k = k
EachOf-join P (p ∷ a) b h k = (h.0, EachOf-join P a b h.1 k)

EachOf-at : (P : PatternTree → Type 0) (a : List PatternTree) (p : PatternTree) (b : List PatternTree) → EachOf P (a ++ p ∷ b) → P p
EachOf-at P [] p b h = h.0
EachOf-at P (q ∷ a) p b h = EachOf-at P a p b h.1

-- what holds of the parts of each pattern of which it holds, and of the whole, holds of each subpattern
module _ (P : PatternTree → Type 0) (inward : (q : PatternTree) → P q → EachOf P (parts q)) where
  mutual
    each-inside : (p : PatternTree) → P p → EachOf P (subpatterns p)
    each-inside (enode f row) h = (h, each-in row (inward (enode f row) h))
    each-inside (pvar v) h = (h, tt)
    each-inside (substitution b x t) h =
        let three = inward (substitution b x t) h in
        (h, EachOf-join P (subpatterns t) (subpatterns x ++ subpatterns b) (each-inside t three.1.1.0) (EachOf-join P (subpatterns x) (subpatterns b) (each-inside x three.1.0) (each-inside b three.0)))

    each-in : (row : PatternRow) → EachOf P (patterns_in row) → EachOf P (subpatterns_in row)
    each-in no_more h = tt
    each-in (one_more p rest) h = EachOf-join P (subpatterns_in rest) (subpatterns p) (each-in rest h.1) (each-inside p h.0)

  pub folds-inside : (p x : PatternTree) (left done : List PatternTree) → P p → Folds p (left ++ x ∷ []) done → P x
  folds-inside p x left done holds h = EachOf-at P left x h.taken (subst (EachOf P) (one-more p x left done h) (each-inside p holds))
