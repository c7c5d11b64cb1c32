-- A stack of patterns gives their e-nodes in reading order, if the first part of a pattern is pushed last.
use denote.Ref.{Bor}
use Rattle.std.proofs.Common.{◌≡◌, ℕ, suc, ◌+◌, ◌≤◌, List, [], ◌∷◌, ◌++◌, length, map, reverse, refl, sym, ap, ◌∙◌, arith, append_assoc, append-nil, length-append}
use Rattle.std.proofs.lemmas.List.{map-append, reverse-append, reverse-reverse}
use Rattle.slotted_nodes.specs.Form.{Form}
use Rattle.slotted_patterns.specs.Subpatterns.{parts, patterns_in, subpatterns, subpatterns_in}
use Rattle.slotted_patterns.specs.Tree.{PatternTree, enode, pvar, substitution, PatternRow, no_more, one_more, row_of}
use Rattle.slotted_patterns.proofs.Folds.{row_of-in}
use Rattle.slotted_signatures.specs.Reading.{nodes_of, nodes_in, own_nodes}

pub map-reverse : {A B : Type 0} (f : A → B) (xs : List A) → map f (reverse xs) ≡ reverse (map f xs)
map-reverse f [] = refl
map-reverse f (x ∷ xs) =
    ap (map f) (reverse-append (x ∷ []) xs)
    ∙ (map-append f (reverse xs) (x ∷ []) ∙ (ap (λ l. l ++ f x ∷ []) (map-reverse f xs) ∙ sym (reverse-append (f x ∷ []) (map f xs))))

-- what is lent, under a map
pub mapped-now : {A B : Type 0} (f : A → B) (lent : List (Bor A)) (xs : List A) → map (λ y. y.now) lent ≡ xs → map (λ y. f y.now) lent ≡ map f xs
mapped-now {A} {B} f lent xs e = composed lent ∙ ap (map f) e
  where
    composed : (l : List (Bor A)) → map (λ y. f y.now) l ≡ map f (map (λ y. y.now) l)
    composed [] = refl
    composed (y ∷ l) = ap (λ t. f y.now ∷ t) (composed l)

nodes-append : (a b : List PatternTree) → nodes_in (row_of (a ++ b)) ≡ nodes_in (row_of a) ++ nodes_in (row_of b)
nodes-append [] b = refl
nodes-append (p ∷ a) b = ap (λ l. nodes_of p ++ l) (nodes-append a b) ∙ sym (append_assoc (nodes_of p) (nodes_in (row_of a)) (nodes_in (row_of b)))

-- the e-nodes of a pattern are its own and those of its parts
opened : (p : PatternTree) → nodes_of p ≡ own_nodes p ++ nodes_in (row_of (parts p))
opened (enode f row) = ap (λ r. f ∷ nodes_in r) (sym (row_of-in row))
opened (pvar v) = refl
opened (substitution b x t) = ap (λ l. nodes_of b ++ (nodes_of x ++ l)) (sym (append-nil (nodes_of t)))

-- the uppermost pattern gives way to its parts
step : (rest : List PatternTree) (p : PatternTree) → nodes_in (row_of (reverse (rest ++ p ∷ []))) ≡ own_nodes p ++ nodes_in (row_of (reverse (rest ++ reverse (parts p))))
step rest p =
    let turned : reverse (rest ++ reverse (parts p)) ≡ parts p ++ reverse rest =
    reverse-append rest (reverse (parts p)) ∙ ap (λ l. l ++ reverse rest) (reverse-reverse (parts p)) in
    ap (λ l. nodes_in (row_of l)) (reverse-append rest (p ∷ []))
    ∙ (ap (λ l. l ++ nodes_in (row_of (reverse rest))) (opened p)
    ∙ (append_assoc (own_nodes p) (nodes_in (row_of (parts p))) (nodes_in (row_of (reverse rest)))
    ∙ ap (λ l. own_nodes p ++ l) (sym (ap (λ l. nodes_in (row_of l)) turned ∙ nodes-append (parts p) (reverse rest)))))

pub walk : (found now : List Form) (rest left next : List PatternTree) (all : List Form) (p : PatternTree) → left ≡ rest ++ p ∷ [] → next ≡ rest ++ reverse (parts p) → now ≡ found ++ own_nodes p → found ++ nodes_in (row_of (reverse left)) ≡ all → now ++ nodes_in (row_of (reverse next)) ≡ all
walk found now rest left next all p last opens more before =
    (λ i. more i ++ nodes_in (row_of (reverse (opens i))))
    ∙ (append_assoc found (own_nodes p) (nodes_in (row_of (reverse (rest ++ reverse (parts p)))))
    ∙ (ap (λ l. found ++ l) (sym (ap (λ l. nodes_in (row_of (reverse l))) last ∙ step rest p)) ∙ before))

-- how many patterns there are in these
abbrev pub weight : List PatternTree → ℕ
weight [] = 0
weight (p ∷ ps) = length (subpatterns p) + weight ps

weight-append : (a b : List PatternTree) → weight (a ++ b) ≡ weight a + weight b
weight-append [] b = omega arith
weight-append (p ∷ a) b = omega (arith, weight-append a b)

weight-reverse : (a : List PatternTree) → weight (reverse a) ≡ weight a
weight-reverse [] = refl
weight-reverse (p ∷ a) = omega (arith, ap weight (reverse-append (p ∷ []) a), weight-append (reverse a) (p ∷ []), weight-reverse a)

row-weight : (row : PatternRow) → length (subpatterns_in row) ≡ weight (patterns_in row)
row-weight no_more = refl
row-weight (one_more p rest) = omega (arith, length-append (subpatterns_in rest) (subpatterns p), row-weight rest)

opened-weight : (p : PatternTree) → length (subpatterns p) ≡ suc (weight (parts p))
opened-weight (enode f row) = ap suc (row-weight row)
opened-weight (pvar v) = refl
opened-weight (substitution b x t) =
    omega (arith, length-append (subpatterns t) (subpatterns x ++ subpatterns b), length-append (subpatterns x) (subpatterns b))

pub fewer : (rest left next : List PatternTree) (p : PatternTree) → left ≡ rest ++ p ∷ [] → next ≡ rest ++ reverse (parts p) → suc (weight next) ≤ weight left
fewer rest left next p last opens =
    omega (arith, ap weight opens, ap weight last, weight-append rest (p ∷ []), weight-append rest (reverse (parts p)), weight-reverse (parts p), opened-weight p)
