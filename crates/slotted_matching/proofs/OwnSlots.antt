-- The own names and binders of a node are those at which two of its outlines agree.
use Rattle.std.proofs.Common.{◌≡◌, ℕ, ◌+◌, ◌<◌, List, [], ◌∷◌, ◌++◌, length, take, drop, map, Bool, true, false, cond, refl, sym, ap, ◌∙◌, arith, get_or, slice_index, length-append, length-drop, length-take}
use Rattle.std.specs.Prelude.{filter, nat_eq}
use Rattle.std.specs.List.{zip}
use Rattle.std.proofs.lemmas.Bool.{eq-eqb}
use Rattle.std.proofs.lemmas.List.{map-append, append-nil, take_more}
use Rattle.std.proofs.lemmas.List.Elements.{filter-append}
use Rattle.slotted_nodes.specs.Form.{Tree, leaf, own, child, bind, scopes, children}
use Rattle.slotted_languages.specs.Outline.{outlined_names}
use Rattle.slotted_languages.proofs.Outlines.{length-outlined_names}
use Rattle.slotted_model_rules.specs.Patterns.{Pattern}
use Rattle.slotted_model_rules.specs.Goals.{own_slots}
use Rattle.slotted_rule_patterns.specs.PatternCode.{filled_pattern}
use Rattle.slotted_match_machine.proofs.Lists.{zip-append}
use Rattle.slotted_matching.specs.Compiled.{common_names}

pub common-append : (xs us ys vs : List ℕ) → length xs ≡ length ys → common_names (xs ++ us) (ys ++ vs) ≡ common_names xs ys ++ common_names us vs
common-append xs us ys vs n =
    ap (λ l. map (λ e. e.0) (filter (λ (e : ℕ × ℕ). nat_eq e.0 e.1) l)) (zip-append xs us ys vs n)
    ∙ (ap (map (λ e. e.0)) (filter-append (λ (e : ℕ × ℕ). nat_eq e.0 e.1) (zip xs ys) (zip us vs))
    ∙ map-append (λ e. e.0) (filter (λ (e : ℕ × ℕ). nat_eq e.0 e.1) (zip xs ys)) (filter (λ (e : ℕ × ℕ). nat_eq e.0 e.1) (zip us vs)))

-- a name that stands in both
pub both-first : (x : ℕ) (xs ys : List ℕ) → common_names (x ∷ xs) (x ∷ ys) ≡ x ∷ common_names xs ys
both-first x xs ys = ap (λ b. map (λ (e : ℕ × ℕ). e.0) (cond b ((x, x) ∷ filter (λ (e : ℕ × ℕ). nat_eq e.0 e.1) (zip xs ys)) (filter (λ (e : ℕ × ℕ). nat_eq e.0 e.1) (zip xs ys)))) (eq-eqb x x refl)

one-place : (x y : ℕ) (b : Bool) → nat_eq x y ≡ b → common_names (x ∷ []) (y ∷ []) ≡ cond b (x ∷ []) []
one-place x y true e = ap (λ b. map (λ (e : ℕ × ℕ). e.0) (cond b ((x, y) ∷ []) [])) e
one-place x y false e = ap (λ b. map (λ (e : ℕ × ℕ). e.0) (cond b ((x, y) ∷ []) [])) e

-- one more place
pub common-more : (xs ys : List ℕ) (i : ℕ) (b : Bool) → length xs ≡ length ys → i < length xs → nat_eq (get_or xs i 0) (get_or ys i 0) ≡ b
    → common_names (take (i + 1) xs) (take (i + 1) ys) ≡ common_names (take i xs) (take i ys) ++ cond b (get_or xs i 0 ∷ []) []
common-more xs ys i b n l e =
    let k : i < length ys = omega (arith, l, n) in
    let same : length (take i xs) ≡ length (take i ys) = length-take i xs ∙ ((λ j. Rattle.std.specs.Prelude.min i (n j)) ∙ sym (length-take i ys)) in
    (λ j. common_names (take_more xs i 0 l j) (take_more ys i 0 k j))
    ∙ (common-append (take i xs) (get_or xs i 0 ∷ []) (take i ys) (get_or ys i 0 ∷ []) same
    ∙ ap (λ t. common_names (take i xs) (take i ys) ++ t) (one-place (get_or xs i 0) (get_or ys i 0) b e))

pub common-kept : (xs ys : List ℕ) (i : ℕ) → length xs ≡ length ys → i < length xs → nat_eq (get_or xs i 0) (get_or ys i 0) ≡ false → common_names (take i xs) (take i ys) ≡ common_names (take (i + 1) xs) (take (i + 1) ys)
common-kept xs ys i n l e = sym (common-more xs ys i false n l e ∙ append-nil (common_names (take i xs) (take i ys)))

pub common-pushed : (xs ys : List ℕ) (i x : ℕ) → length xs ≡ length ys → i < length xs → nat_eq (get_or xs i 0) (get_or ys i 0) ≡ true → x ≡ get_or xs i 0
    → common_names (take i xs) (take i ys) ++ x ∷ [] ≡ common_names (take (i + 1) xs) (take (i + 1) ys)
common-pushed xs ys i x n l e is = ap (λ y. common_names (take i xs) (take i ys) ++ y ∷ []) is ∙ sym (common-more xs ys i true n l e)

pub same-outlines : (v w : ℕ) (u : Tree) (xs : List ℕ) → length (outlined_names v u xs) ≡ length (outlined_names w u xs)
same-outlines v w u xs = length-outlined_names v u xs ∙ sym (length-outlined_names w u xs)

pub own-common : (u : Tree) (xs : List ℕ) (ps : List Pattern) → length ps ≡ length (children u) → common_names (outlined_names 0 u xs) (outlined_names 4 u xs) ≡ own_slots (filled_pattern u xs ps)
own-common leaf xs ps n = refl
own-common (own r) xs ps n = both-first (slice_index xs 0) (outlined_names 0 r (drop 1 xs)) (outlined_names 4 r (drop 1 xs)) ∙ ap (λ l. slice_index xs 0 ∷ l) (own-common r (drop 1 xs) ps n)
own-common (child i ks r) xs [] n = absurd (omega (arith, n))
own-common (child i ks r) xs (p ∷ ps) n = own-common r (drop (length ks) xs) ps (omega (arith, n))
own-common (bind u r) xs ps n =
    let m = length (scopes u) in
    let k = length (children u) in
    let us = take m (drop 1 xs) in
    let rs = drop m (drop 1 xs) in
    let total : length ps ≡ k + length (children r) = n ∙ length-append (children u) (children r) in
    both-first (slice_index xs 0) (outlined_names 0 u us ++ outlined_names 0 r rs) (outlined_names 4 u us ++ outlined_names 4 r rs)
    ∙ ap (λ l. slice_index xs 0 ∷ l)
    (common-append (outlined_names 0 u us) (outlined_names 0 r rs) (outlined_names 4 u us) (outlined_names 4 r rs) (same-outlines 0 4 u us)
    ∙ (λ j. own-common u us (take k ps) (omega (arith, total, length-take k ps)) j ++ own-common r rs (drop k ps) (omega (arith, total, length-drop k ps)) j))
