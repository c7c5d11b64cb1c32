-- A node's tree and names can be read off its term and its nameless form.
use Rattle.std.proofs.Common.{◌≡◌, ℕ, suc, ◌+◌, List, [], ◌∷◌, ◌++◌, length, take, drop, sym, ◌∙◌, ap, refl, arith, length-append, length-drop, slice_index}
use Rattle.std.proofs.lemmas.List.{length-map, length-take-le}
use Rattle.std.proofs.Math.Seq.{take-append_seam, drop-append_seam}
use Rattle.slotted_theory.specs.Term.{Args, name, child, bind}
use Rattle.slotted_theory.specs.Nameless.{DArgs, stop, place, sub, scope, extend, lift, nameless_args, moved_args}
use Rattle.slotted_nodes.specs.Form.{Tree, leaf, own, scopes}
use Rattle.slotted_nodes.specs.Form.{child as id, bind as binder}
use Rattle.slotted_languages.specs.NodeTerm.{own_names, node_args}
use Rattle.slotted_slots.specs.Table.{numeric_slot}
use Rattle.slotted_languages.specs.Shape.{Numbers, number_at, past_binder, numbered, names_in}

-- the number at the head of a list of lists
abbrev first_number : List (List ℕ) → ℕ
first_number [] = 0
first_number ([] ∷ ps) = 0
first_number ((n ∷ ns) ∷ ps) = n

abbrev later_numbers : List (List ℕ) → List ℕ
later_numbers [] = []
later_numbers ([] ∷ ps) = []
later_numbers ((n ∷ ns) ∷ ps) = ns

-- the tree of a nameless form
abbrev pub tree_of : DArgs → Tree
tree_of stop = leaf
tree_of (place x rest) = own (tree_of rest)
tree_of (sub op payloads args rest) = id (first_number payloads) (later_numbers payloads) (tree_of rest)
tree_of (scope inner rest) = binder (tree_of inner) (tree_of rest)

pub tree_of-node : (ρ : ℕ → ℕ) (t : Tree) (xs : List ℕ) → tree_of (nameless_args ρ (node_args t xs)) ≡ t
tree_of-node ρ leaf xs = refl
tree_of-node ρ (own r) xs = ap own (tree_of-node ρ r (drop 1 xs))
tree_of-node ρ (id i ks r) xs = ap (id i ks) (tree_of-node ρ r (drop (length ks) xs))
tree_of-node ρ (binder u r) xs =
    λ i. binder (tree_of-node (extend (slice_index xs 0) ρ) u (take (length (scopes u)) (drop 1 xs)) i)
    (tree_of-node ρ r (drop (length (scopes u)) (drop 1 xs)) i)

pub tree_of-moved : (f : ℕ → ℕ) (d : DArgs) → tree_of (moved_args f d) ≡ tree_of d
tree_of-moved f stop = refl
tree_of-moved f (place x rest) = ap own (tree_of-moved f rest)
tree_of-moved f (sub op payloads args rest) = ap (id (first_number payloads) (later_numbers payloads)) (tree_of-moved f rest)
tree_of-moved f (scope inner rest) = λ i. binder (tree_of-moved (lift f) inner i) (tree_of-moved f rest i)

-- the names of the parts of a tree, where all have their number
pub own_fits : (r : Tree) (xs : List ℕ) → length xs ≡ length (scopes (own r)) → length (drop 1 xs) ≡ length (scopes r)
own_fits r xs h = omega (arith, h, length-drop 1 xs)

pub length-child : (i : ℕ) (ks : List ℕ) (r : Tree) → length (scopes (id i ks r)) ≡ length ks + length (scopes r)
length-child i ks r = grind (arith, length-append, length-map)

pub child_keys_fit : (i : ℕ) (ks : List ℕ) (r : Tree) (xs : List ℕ) → length xs ≡ length (scopes (id i ks r)) → length (take (length ks) xs) ≡ length ks
child_keys_fit i ks r xs h =
    length-take-le (length ks) xs (omega (arith, h, length-child i ks r))

pub child_rest_fits : (i : ℕ) (ks : List ℕ) (r : Tree) (xs : List ℕ) → length xs ≡ length (scopes (id i ks r)) → length (drop (length ks) xs) ≡ length (scopes r)
child_rest_fits i ks r xs h =
    omega (arith, h, length-drop (length ks) xs, length-child i ks r)

pub bind_inner_fits : (u r : Tree) (xs : List ℕ) → length xs ≡ length (scopes (binder u r)) → length (take (length (scopes u)) (drop 1 xs)) ≡ length (scopes u)
bind_inner_fits u r xs h =
    length-take-le (length (scopes u)) (drop 1 xs) (omega (arith, h, length-drop 1 xs, length-append (scopes u) (scopes r)))

pub bind_rest_fits : (u r : Tree) (xs : List ℕ) → length xs ≡ length (scopes (binder u r)) → length (drop (length (scopes u)) (drop 1 xs)) ≡ length (scopes r)
bind_rest_fits u r xs h = omega (arith, h, length-drop 1 xs, length-drop (length (scopes u)) (drop 1 xs), length-append (scopes u) (scopes r))

-- the numbers of a nameless form that ρ makes of named arguments
abbrev pub numbers_of : List ℕ → Numbers → (ℕ → ℕ) → Args → Args
numbers_of ns k ρ a = (numbered ns k (nameless_args ρ a)).0

own_numbers : (ns : List ℕ) (k : Numbers) (ρ : ℕ → ℕ) (xs : List ℕ) → own_names (names_in (numbers_of ns k ρ (own_names xs))) ≡ numbers_of ns k ρ (own_names xs)
own_numbers ns k ρ [] = refl
own_numbers ns k ρ (x ∷ xs) = ap (name (number_at ns k (ρ x)).0) (own_numbers ns (number_at ns k (ρ x)).1 ρ xs)

length-own_numbers : (ns : List ℕ) (k : Numbers) (ρ : ℕ → ℕ) (xs : List ℕ) → length (names_in (numbers_of ns k ρ (own_names xs))) ≡ length xs
length-own_numbers ns k ρ [] = refl
length-own_numbers ns k ρ (x ∷ xs) = ap suc (length-own_numbers ns (number_at ns k (ρ x)).1 ρ xs)

-- as many numbers as places
pub length-numbers : (ns : List ℕ) (k : Numbers) (ρ : ℕ → ℕ) (t : Tree) (xs : List ℕ) → length xs ≡ length (scopes t) → length (names_in (numbers_of ns k ρ (node_args t xs))) ≡ length (scopes t)
length-numbers ns k ρ leaf xs h = refl
length-numbers ns k ρ (own r) xs h = ap suc (length-numbers ns (number_at ns k (ρ (slice_index xs 0))).1 ρ r (drop 1 xs) (own_fits r xs h))
length-numbers ns k ρ (id i ks r) xs h =
    let s = (numbered ns k (nameless_args ρ (own_names (take (length ks) xs)))).1 in
    length-append (names_in (numbers_of ns k ρ (own_names (take (length ks) xs)))) (names_in (numbers_of ns s ρ (node_args r (drop (length ks) xs))))
    ∙ ((λ j. (length-own_numbers ns k ρ (take (length ks) xs) ∙ child_keys_fit i ks r xs h) j + length-numbers ns s ρ r (drop (length ks) xs) (child_rest_fits i ks r xs h) j)
    ∙ omega (arith, length-child i ks r))
length-numbers ns k ρ (binder u r) xs h =
    let x = slice_index xs 0 in
    let us = take (length (scopes u)) (drop 1 xs) in
    let rs = drop (length (scopes u)) (drop 1 xs) in
    let s = (numbered (numeric_slot k.next ∷ ns) (past_binder k) (nameless_args (extend x ρ) (node_args u us))).1 in
    ap suc (length-append (names_in (numbers_of (numeric_slot k.next ∷ ns) (past_binder k) (extend x ρ) (node_args u us))) (names_in (numbers_of ns s ρ (node_args r rs)))
    ∙ ((λ j. length-numbers (numeric_slot k.next ∷ ns) (past_binder k) (extend x ρ) u us (bind_inner_fits u r xs h) j + length-numbers ns s ρ r rs (bind_rest_fits u r xs h) j)
    ∙ sym (length-append (scopes u) (scopes r))))

-- the names before and after a seam
front : {B : Type 0} (f : List ℕ → B) (n : ℕ) (p q : List ℕ) → length p ≡ n → f (take n (p ++ q)) ≡ f p
front f n p q e = ap f (ap (λ m. take m (p ++ q)) (sym e) ∙ take-append_seam p q)

back : {B : Type 0} (f : List ℕ → B) (n : ℕ) (p q : List ℕ) → length p ≡ n → f (drop n (p ++ q)) ≡ f q
back f n p q e = ap f (ap (λ m. drop m (p ++ q)) (sym e) ∙ drop-append_seam p q)

-- the numbers put at the places of the tree are the numbered arguments
pub node_args-numbers : (ns : List ℕ) (k : Numbers) (ρ : ℕ → ℕ) (t : Tree) (xs : List ℕ) → length xs ≡ length (scopes t) → node_args t (names_in (numbers_of ns k ρ (node_args t xs))) ≡ numbers_of ns k ρ (node_args t xs)
node_args-numbers ns k ρ leaf xs h = refl
node_args-numbers ns k ρ (own r) xs h =
    ap (name (number_at ns k (ρ (slice_index xs 0))).0) (node_args-numbers ns (number_at ns k (ρ (slice_index xs 0))).1 ρ r (drop 1 xs) (own_fits r xs h))
node_args-numbers ns k ρ (id i ks r) xs h =
    let ys = take (length ks) xs in
    let s = (numbered ns k (nameless_args ρ (own_names ys))).1 in
    let p = names_in (numbers_of ns k ρ (own_names ys)) in
    let q = names_in (numbers_of ns s ρ (node_args r (drop (length ks) xs))) in
    let e : length p ≡ length ks = length-own_numbers ns k ρ ys ∙ child_keys_fit i ks r xs h in
    let a : own_names (take (length ks) (p ++ q)) ≡ numbers_of ns k ρ (own_names ys) = front own_names (length ks) p q e ∙ own_numbers ns k ρ ys in
    let b : node_args r (drop (length ks) (p ++ q)) ≡ numbers_of ns s ρ (node_args r (drop (length ks) xs)) = back (node_args r) (length ks) p q e ∙ node_args-numbers ns s ρ r (drop (length ks) xs) (child_rest_fits i ks r xs h) in
    λ j. child 0 ((i ∷ ks) ∷ []) (a j) (b j)
node_args-numbers ns k ρ (binder u r) xs h =
    let x = slice_index xs 0 in
    let us = take (length (scopes u)) (drop 1 xs) in
    let rs = drop (length (scopes u)) (drop 1 xs) in
    let n = numeric_slot k.next in
    let s = (numbered (n ∷ ns) (past_binder k) (nameless_args (extend x ρ) (node_args u us))).1 in
    let p = names_in (numbers_of (n ∷ ns) (past_binder k) (extend x ρ) (node_args u us)) in
    let q = names_in (numbers_of ns s ρ (node_args r rs)) in
    let e : length p ≡ length (scopes u) = length-numbers (n ∷ ns) (past_binder k) (extend x ρ) u us (bind_inner_fits u r xs h) in
    let a : node_args u (take (length (scopes u)) (p ++ q)) ≡ numbers_of (n ∷ ns) (past_binder k) (extend x ρ) (node_args u us) = front (node_args u) (length (scopes u)) p q e ∙ node_args-numbers (n ∷ ns) (past_binder k) (extend x ρ) u us (bind_inner_fits u r xs h) in
    let b : node_args r (drop (length (scopes u)) (p ++ q)) ≡ numbers_of ns s ρ (node_args r rs) = back (node_args r) (length (scopes u)) p q e ∙ node_args-numbers ns s ρ r rs (bind_rest_fits u r xs h) in
    λ j. bind n (a j) (b j)
