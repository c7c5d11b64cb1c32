-- Trees of nodes go to lists and back.
use Rattle.std.proofs.Common.{◌≡◌, ◌≤◌, ℕ, suc, ◌-◌, List, [], ◌∷◌, ◌++◌, length, map, take, drop, option_to_list, refl, sym, ap, subst, ◌∙◌, arith, append_assoc, append-nil, length-append}
use Rattle.std.specs.Prelude.{Option, Some}
use Rattle.std.proofs.lemmas.List.{map-append, length-map, take-map, drop-map}
use Rattle.std.proofs.Math.Seq.{take-append_seam, drop-append_seam}
use Rattle.slotted_theory.specs.Term.{Term}
use Rattle.slotted_nodes.specs.Form.{Form}
use Rattle.slotted_languages.specs.Filled.{term_of}
use Rattle.slotted_patterns.specs.Tree.{PatternTree, enode, pvar, substitution, PatternRow, no_more, one_more, row_of}
use Rattle.slotted_patterns.proofs.PatternCopies.{mapped_one}
use Rattle.slotted_terms.specs.Flat.{row_length, flat, flat_row, flat_of, closed, closed_terms}
use Rattle.slotted_terms.specs.declared.flat.FlatNode.{FlatNode}
use Rattle.slotted_terms.specs.TermPattern.{term_in, terms_in, IsGround, AreGround, IsPatternOf, ArePatternsOf}
use Rattle.slotted_terms.proofs.TermPatterns.{patterns_more}

abbrev head_or : Term → List Term → Term
head_or d [] = d
head_or d (t ∷ ts) = t

abbrev list_of : PatternRow → List PatternTree
list_of no_more = []
list_of (one_more p rest) = p ∷ list_of rest

row_of-list : (row : PatternRow) → row_of (list_of row) ≡ row
row_of-list no_more = refl
row_of-list (one_more p rest) = ap (one_more p) (row_of-list rest)

length-list : (row : PatternRow) → length (list_of row) ≡ row_length row
length-list no_more = refl
length-list (one_more p rest) = ap suc (length-list rest)

pub row_length-row : (ps : List PatternTree) → row_length (row_of ps) ≡ length ps
row_length-row [] = refl
row_length-row (p ∷ ps) = ap suc (row_length-row ps)

-- what is built of nodes from the last one on
abbrev pub build : List (Form × ℕ) → List PatternTree
build [] = []
build ((f, n) ∷ s) = closed f n (build s)

-- each node finds as many trees as it has to stand over
abbrev pub Fits : List (Form × ℕ) → Type 0
Fits [] = Unit {0}
Fits ((f, n) ∷ s) = (n ≤ length (build s)) × Fits s

pub fits_end : (a b : List (Form × ℕ)) → Fits (a ++ b) → Fits b
fits_end [] b h = h
fits_end ((f, n) ∷ a) b h = fits_end a b h.1

closed_seam : (f : Form) (xs ps : List PatternTree) → closed f (length ps) (xs ++ ps) ≡ xs ++ enode f (row_of ps) ∷ []
closed_seam f xs ps =
    let at : length (xs ++ ps) - length ps ≡ length xs = omega (arith, length-append xs ps) in
    ap (λ k. take k (xs ++ ps) ++ enode f (row_of (drop k (xs ++ ps))) ∷ []) at ∙ (λ i. take-append_seam xs ps i ++ enode f (row_of (drop-append_seam xs ps i)) ∷ [])

mutual
  build_flat : (p : PatternTree) → IsGround p → (s : List (Form × ℕ)) → build (flat p ++ s) ≡ build s ++ p ∷ []
  build_flat (enode f row) g s =
      ap (closed f (row_length row)) (build_row row g s)
      ∙ (ap (λ n. closed f n (build s ++ list_of row)) (sym (length-list row)) ∙ (closed_seam f (build s) (list_of row) ∙ ap (λ r. build s ++ enode f r ∷ []) (row_of-list row)))
  build_flat (pvar v) g s = absurd g
  build_flat (substitution b x t) g s = absurd g

  build_row : (row : PatternRow) → AreGround row → (s : List (Form × ℕ)) → build (flat_row row ++ s) ≡ build s ++ list_of row
  build_row no_more g s = sym (append-nil (build s))
  build_row (one_more p rest) g s =
      ap build (append_assoc (flat_row rest) (flat p) s) ∙ (build_row rest g.1 (flat p ++ s) ∙ (ap (λ x. x ++ list_of rest) (build_flat p g.0 s) ∙ append_assoc (build s) (p ∷ []) (list_of rest)))

mutual
  fits_flat : (p : PatternTree) → IsGround p → (s : List (Form × ℕ)) → Fits s → Fits (flat p ++ s)
  fits_flat (enode f row) g s h =
      (omega (arith, ap length (build_row row g s), length-append (build s) (list_of row), length-list row), fits_row row g s h)
  fits_flat (pvar v) g s h = absurd g
  fits_flat (substitution b x t) g s h = absurd g

  fits_row : (row : PatternRow) → AreGround row → (s : List (Form × ℕ)) → Fits s → Fits (flat_row row ++ s)
  fits_row no_more g s h = h
  fits_row (one_more p rest) g s h =
      subst Fits (sym (append_assoc (flat_row rest) (flat p) s)) (fits_row rest g.1 (flat p ++ s) (fits_flat p g.0 s h))

-- the list of a tree builds that tree
pub builds : (ns : List (Form × ℕ)) (p : PatternTree) → IsGround p → ns ≡ flat p → build ns ≡ p ∷ []
builds ns p g is = ap build (is ∙ sym (append-nil (flat p))) ∙ build_flat p g []

pub fits : (ns : List (Form × ℕ)) (p : PatternTree) → IsGround p → ns ≡ flat p → Fits ns
fits ns p g is = subst Fits (sym (is ∙ sym (append-nil (flat p)))) (fits_flat p g [] tt)

-- rows of patterns, one after another
pub flat_append : (ps qs : List PatternTree) → flat_row (row_of (ps ++ qs)) ≡ flat_row (row_of qs) ++ flat_row (row_of ps)
flat_append [] qs = sym (append-nil (flat_row (row_of qs)))
flat_append (p ∷ ps) qs =
    ap (λ x. x ++ flat p) (flat_append ps qs) ∙ append_assoc (flat_row (row_of qs)) (flat_row (row_of ps)) (flat p)

pub terms_of : (ps : List PatternTree) → terms_in (row_of ps) ≡ map term_in ps
terms_of [] = refl
terms_of (p ∷ ps) = ap (λ ts. term_in p ∷ ts) (terms_of ps)

-- the patterns of terms that stand in two parts
record Parts (ps : List PatternTree) (ts us : List Term) : Type 0 where
  left : List PatternTree
  right : List PatternTree
  whole : ps ≡ left ++ right
  first : ArePatternsOf (row_of left) ts
  second : ArePatternsOf (row_of right) us

parts : (ps : List PatternTree) (ts us : List Term) → ArePatternsOf (row_of ps) (ts ++ us) → Parts ps ts us
parts ps [] us h = record { left = []; right = ps; whole = refl; first = record { ground = tt; value = refl }; second = h }
parts [] (t ∷ ts) us h = absurd (omega (arith, ap length h.value))
parts (p ∷ ps) (t ∷ ts) us h =
    let more = parts ps ts us (record { ground = h.ground.1; value = ap (drop 1) h.value }) in
    record {
      left = p ∷ more.left;
      right = more.right;
      whole = ap (λ qs. p ∷ qs) more.whole;
      first = record { ground = (h.ground.0, more.first.ground); value = λ i. head_or t (h.value i) ∷ more.first.value i };
      second = more.second;
    }

-- whatever patterns the terms have that are left, with them the nodes are those of a pattern of the term root
abbrev pub Continues : Term → List (Form × ℕ) → List Term → Type 0
Continues root ns ts =
    (ps : List PatternTree) → ArePatternsOf (row_of ps) ts → (p : PatternTree) × IsPatternOf p root × (ns ++ flat_row (row_of ps) ≡ flat p)

pub continues_start : (root : Term) → Continues root [] (root ∷ [])
continues_start root [] h = absurd (omega (arith, ap length h.value))
continues_start root (p ∷ []) h = (p, record { ground = h.ground.0; value = ap (head_or root) h.value }, refl)
continues_start root (p ∷ q ∷ ps) h = absurd (omega (arith, ap length h.value))

pub continues_step : (root : Term) (ns : List (Form × ℕ)) (rest cs : List Term) (f : Form) (t : Term) → Continues root ns (rest ++ t ∷ []) → term_of f cs ≡ t → Continues root (ns ++ (f, length cs) ∷ []) (rest ++ cs)
continues_step root ns rest cs f t before is ps h =
    let s = parts ps rest cs h in
    let node : PatternTree = enode f (row_of s.right) in
    let over : IsPatternOf node t = record { ground = s.second.ground; value = ap (term_of f) s.second.value ∙ is } in
    let all = before (s.left ++ node ∷ []) (patterns_more s.left node rest t s.first over) in
    let count : row_length (row_of s.right) ≡ length cs = row_length-row s.right ∙ (sym (length-map s.right term_in) ∙ ap length (sym (terms_of s.right) ∙ s.second.value)) in
    let same : (ns ++ (f, length cs) ∷ []) ++ flat_row (row_of ps) ≡ ns ++ flat_row (row_of (s.left ++ node ∷ [])) =
    append_assoc ns ((f, length cs) ∷ []) (flat_row (row_of ps))
    ∙ ap (λ x. ns ++ x) (ap (λ qs. (f, length cs) ∷ flat_row (row_of qs)) s.whole ∙ (ap (λ x. (f, length cs) ∷ x) (flat_append s.left s.right) ∙ (ap (λ n. (f, n) ∷ (flat_row (row_of s.right) ++ flat_row (row_of s.left))) (sym count) ∙ sym (flat_append s.left (node ∷ []))))) in
    (all.0, all.1, same ∙ all.2)

abbrev first_or : {B : Type 0} → B → List B → B
first_or d [] = d
first_or d (x ∷ xs) = x

one_image : {A B : Type 0} (f : A → B) (q : A) (p : B) (rest : List A) → map f (rest ++ q ∷ []) ≡ p ∷ [] → f q ≡ p
one_image f q p [] h = ap (first_or p) h
one_image f q p (r ∷ []) h = absurd (omega (arith, ap length h))
one_image f q p (r ∷ s ∷ rest) h = absurd (omega (arith, ap length h))

same : {A : Type 0} (xs : List A) → map (λ x. x) xs ≡ xs
same [] = refl
same (x ∷ xs) = ap (λ ys. x ∷ ys) (same xs)

-- the last node of a list
pub flat_last : {L : Type 0} (form : L → Form) (all rest : List (FlatNode L)) (o : Option (FlatNode L)) (x : FlatNode L) → all ≡ rest ++ option_to_list o → o ≡ Some x → flat_of form all ≡ flat_of form rest ++ (form x.node, x.count) ∷ []
flat_last form all rest o x last is =
    ap (flat_of form) (last ∙ ap (λ r. rest ++ option_to_list r) is) ∙ map-append (λ n. (form n.node, n.count)) rest (x ∷ [])

-- the terms of patterns of which the last give way to a node over them
pub closed_terms_in : (f : Form) (n : ℕ) (ps : List PatternTree) → closed_terms f n (map term_in ps) ≡ map term_in (closed f n ps)
closed_terms_in f n ps =
    let k : length (map term_in ps) - n ≡ length ps - n = omega (arith, length-map ps term_in) in
    let at = length ps - n in
    ap (λ j. take j (map term_in ps) ++ term_of f (drop j (map term_in ps)) ∷ []) k
    ∙ ((λ i. take-map term_in at ps i ++ term_of f ((drop-map term_in at ps ∙ sym (terms_of (drop at ps))) i) ∷ []) ∙ sym (map-append term_in (take at ps) (enode f (row_of (drop at ps)) ∷ [])))

pub only_last : {A : Type 0} (all rest : List A) (o : Option A) (q d : A) → all ≡ rest ++ option_to_list o → o ≡ Some q → all ≡ d ∷ [] → q ≡ d
only_last all rest o q d last is one =
    mapped_one (λ x. x) all rest o q d last is (same all ∙ one)
