-- The tree of arguments: its places, scopes and children, and that it tells the arguments.
use Rattle.std.specs.Prelude.{◌≡◌, ℕ, suc, zero, ◌+◌, ◌-◌, ◌<◌, ◌≤◌, List, [], ◌∷◌, ◌++◌, length, map, Option, Some, None, option_map, Bool, true, false, cond, nat_lt, refl, slice_index_or}
use Rattle.std.proofs.Common.{ap, ◌∙◌, sym, arith, length-append}
use Rattle.std.proofs.lemmas.List.{append-nil, length-map, get_or-append-add, get_or_append_left}
use Rattle.slotted_lists.proofs.Contained.{append_parts}
use Rattle.slotted_slots.specs.Maps.{keys, values}
use Rattle.slotted_slots.specs.Syntax.{Element, text, applied, name}
use Rattle.slotted_nodes.specs.Form.{Tree, leaf, own, child, bind, scopes, children, child_place, with_child_in}
use Rattle.slotted_nodes.specs.Equal.{tree_child, tree_bind, cons_parts, pairs_same}
use Rattle.slotted_nodes.specs.Joined.{none_at}
use Rattle.slotted_nodes.specs.ReadFrom.{slots_of, applied_count}
use Rattle.slotted_patterns.specs.ReadAgain.{applied_ids}
use Rattle.slotted_symbols.specs.Arguments.{elements, with_slot, tree_of, to_child}
use Rattle.slotted_symbols.specs.declared.argument.Argument.{Argument}
use Rattle.slotted_symbols.specs.declared.argument.Argument.TheVariants.{Slot, Child}

abbrev none_each : List ℕ → List (Option ℕ)
none_each ks = map {B = Option ℕ} (λ _. None) ks

none_length : (ks : List ℕ) → length (none_each ks) ≡ length ks
none_length ks = length-map ks (λ _. None)

pub length-values : (m : List (ℕ × ℕ)) → length (values m) ≡ length m
length-values m = length-map m (λ p. p.1)

pub length-keys : (m : List (ℕ × ℕ)) → length (keys m) ≡ length m
length-keys m = length-map m (λ p. p.0)

-- how many places a slot in front would scope
abbrev pub front : Tree → Option ℕ
front leaf = None
front (own r) = None
front (child i ks r) = Some (length ks)
front (bind u r) = Some (suc (length (scopes u)))

-- one more slot is one more place in front
pub scopes-with_slot : (t : Tree) → scopes (with_slot t) ≡ front t ∷ scopes t
scopes-with_slot leaf = refl
scopes-with_slot (own r) = refl
scopes-with_slot (child i ks r) =
    ap (λ s. Some (length s) ∷ (s ++ scopes r)) (append-nil (none_each ks))
    ∙ ap (λ k. Some k ∷ (none_each ks ++ scopes r)) (none_length ks)
scopes-with_slot (bind u r) =
    ap (λ s. Some (suc (length s)) ∷ (Some (length (scopes u)) ∷ (s ++ scopes r))) (append-nil (scopes u))

front-with_slot : (t : Tree) → front (with_slot t) ≡ option_map suc (front t)
front-with_slot leaf = refl
front-with_slot (own r) = refl
front-with_slot (child i ks r) =
    ap (λ s. Some (suc (length s))) (append-nil (none_each ks)) ∙ ap (λ k. Some (suc k)) (none_length ks)
front-with_slot (bind u r) = ap (λ s. Some (suc (suc (length s)))) (append-nil (scopes u))

pub front-tree_of : (es : List Element) → front (tree_of es) ≡ to_child es
front-tree_of [] = refl
front-tree_of (text w ∷ es) = front-tree_of es
front-tree_of (applied i m ∷ es) = ap Some (length-keys m)
front-tree_of (name x ∷ es) = front-with_slot (tree_of es) ∙ ap (option_map suc) (front-tree_of es)

-- a slot in front leaves the children, and moves each place by one
pub children-with_slot : (t : Tree) → children (with_slot t) ≡ children t
children-with_slot leaf = refl
children-with_slot (own r) = refl
children-with_slot (child i ks r) = refl
children-with_slot (bind u r) = ap (λ s. s ++ children r) (append-nil (children u))

pub child_place-with_slot : (t : Tree) (k : ℕ) → child_place (with_slot t) k ≡ suc (child_place t k)
child_place-with_slot leaf k = refl
child_place-with_slot (own r) k = refl
child_place-with_slot (child i ks r) zero = grind arith
child_place-with_slot (child i ks r) (suc k) = grind (arith, length-append, length-map)
child_place-with_slot (bind u r) k = grind (arith, append-nil, length-append)

under_binder : (b : Bool) (u v r s : Tree) →
    cond b (bind (cond b (bind v leaf) (bind u leaf)) r) (bind (bind u leaf) s) ≡ with_slot (cond b (bind v r) (bind u s))
under_binder true u v r s = refl
under_binder false u v r s = refl

pub with_child_in-with_slot : (t : Tree) (k j : ℕ) (ls : List ℕ) → with_child_in (with_slot t) k j ls ≡ with_slot (with_child_in t k j ls)
with_child_in-with_slot leaf k j ls = refl
with_child_in-with_slot (own r) k j ls = refl
with_child_in-with_slot (child i ks r) zero j ls = grind arith
with_child_in-with_slot (child i ks r) (suc k) j ls = grind arith
with_child_in-with_slot (bind u r) k j ls =
    ap (λ cs. cond (nat_lt k (length cs)) (bind (cond (nat_lt k (length (children u))) (bind (with_child_in u k j ls) leaf) (bind u leaf)) r) (bind (bind u leaf) (with_child_in r (k - length cs) j ls))) (append-nil (children u))
    ∙ under_binder (nat_lt k (length (children u))) u (with_child_in u k j ls) r (with_child_in r (k - length (children u)) j ls)

-- the children of arguments
pub children-tree_of : (es : List Element) → children (tree_of es) ≡ applied_ids es
children-tree_of [] = refl
children-tree_of (text w ∷ es) = children-tree_of es
children-tree_of (applied i m ∷ es) = ap (λ s. (i, keys m) ∷ s) (children-tree_of es)
children-tree_of (name x ∷ es) = children-with_slot (tree_of es) ∙ children-tree_of es

pub count-tree_of : (es : List Element) → length (children (tree_of es)) ≡ applied_count es
count-tree_of [] = refl
count-tree_of (text w ∷ es) = count-tree_of es
count-tree_of (applied i m ∷ es) = ap suc (count-tree_of es)
count-tree_of (name x ∷ es) = ap length (children-with_slot (tree_of es)) ∙ count-tree_of es

pub applied_count-within : (es : List Element) → applied_count es ≤ length es
applied_count-within [] = omega arith
applied_count-within (text w ∷ es) = omega (arith, applied_count-within es)
applied_count-within (applied i m ∷ es) = omega (arith, applied_count-within es)
applied_count-within (name x ∷ es) = omega (arith, applied_count-within es)

-- as many names as places
pub tree_fits : (es : List Element) → length (slots_of es) ≡ length (scopes (tree_of es))
tree_fits [] = refl
tree_fits (text w ∷ es) = tree_fits es
tree_fits (applied i m ∷ es) =
    omega (arith, length-append (values m) (slots_of es), length-append (none_each (keys m)) (scopes (tree_of es)), length-values m, length-keys m, none_length (keys m), tree_fits es)
tree_fits (name x ∷ es) = ap suc (tree_fits es) ∙ sym (ap length (scopes-with_slot (tree_of es)))

-- what stands at a child behind other arguments
pub place_of_child : (es : List Element) (i : ℕ) (m : List (ℕ × ℕ)) (ds : List Element) →
    child_place (tree_of (es ++ applied i m ∷ ds)) (applied_count es) ≡ length (slots_of es)
place_of_child [] i m ds = refl
place_of_child (text w ∷ es) i m ds = place_of_child es i m ds
place_of_child (applied h n ∷ es) i m ds =
    omega (arith, length-append (values n) (slots_of es), length-values n, length-keys n, place_of_child es i m ds)
place_of_child (name x ∷ es) i m ds =
    child_place-with_slot (tree_of (es ++ applied i m ∷ ds)) (applied_count es) ∙ ap suc (place_of_child es i m ds)

pub other_child : (es : List Element) (i : ℕ) (m : List (ℕ × ℕ)) (j : ℕ) (n : List (ℕ × ℕ)) (ds : List Element) →
    with_child_in (tree_of (es ++ applied i m ∷ ds)) (applied_count es) j (keys n) ≡ tree_of (es ++ applied j n ∷ ds)
other_child [] i m j n ds = refl
other_child (text w ∷ es) i m j n ds = other_child es i m j n ds
other_child (applied h o ∷ es) i m j n ds = ap (λ t. child h (keys o) t) (other_child es i m j n ds)
other_child (name x ∷ es) i m j n ds =
    with_child_in-with_slot (tree_of (es ++ applied i m ∷ ds)) (applied_count es) j (keys n) ∙ ap with_slot (other_child es i m j n ds)

pub child_behind : (es : List Element) (i : ℕ) (m : List (ℕ × ℕ)) (ds : List Element) →
    slice_index_or (applied_ids (es ++ applied i m ∷ ds)) (applied_count es) (0, []) ≡ (i, keys m)
child_behind [] i m ds = refl
child_behind (text w ∷ es) i m ds = child_behind es i m ds
child_behind (applied h n ∷ es) i m ds = child_behind es i m ds
child_behind (name x ∷ es) i m ds = child_behind es i m ds

-- what scopes begin at a slot, and none in a child
pub scope_at_slot : (es : List Element) (x : ℕ) (ds : List Element) →
    slice_index_or (scopes (tree_of (es ++ name x ∷ ds))) (length (slots_of es)) None ≡ to_child ds
scope_at_slot [] x ds = ap (λ s. slice_index_or s 0 None) (scopes-with_slot (tree_of ds)) ∙ front-tree_of ds
scope_at_slot (text w ∷ es) x ds = scope_at_slot es x ds
scope_at_slot (applied h n ∷ es) x ds =
    let e : length (values n ++ slots_of es) ≡ length (none_each (keys n)) + length (slots_of es) =
    omega (arith, length-append (values n) (slots_of es), length-values n, length-keys n, none_length (keys n)) in
    ap (λ k. slice_index_or (none_each (keys n) ++ scopes (tree_of (es ++ name x ∷ ds))) k None) e
    ∙ get_or-append-add (none_each (keys n)) (scopes (tree_of (es ++ name x ∷ ds))) (length (slots_of es)) None
    ∙ scope_at_slot es x ds
scope_at_slot (name y ∷ es) x ds =
    ap (λ s. slice_index_or s (suc (length (slots_of es))) None) (scopes-with_slot (tree_of (es ++ name x ∷ ds))) ∙ scope_at_slot es x ds

pub scope_in_child : (es : List Element) (i : ℕ) (m : List (ℕ × ℕ)) (ds : List Element) (j : ℕ) → j < length m →
    slice_index_or (scopes (tree_of (es ++ applied i m ∷ ds))) (length (slots_of es) + j) None ≡ None
scope_in_child [] i m ds j h =
    let e : 0 + j ≡ j = omega arith in
    ap (λ k. slice_index_or (none_each (keys m) ++ scopes (tree_of ds)) k None) e
    ∙ get_or_append_left (none_each (keys m)) (scopes (tree_of ds)) None j (omega (arith, h, length-keys m, none_length (keys m)))
    ∙ none_at (keys m) j
scope_in_child (text w ∷ es) i m ds j h = scope_in_child es i m ds j h
scope_in_child (applied k n ∷ es) i m ds j h =
    let e : length (values n ++ slots_of es) + j ≡ length (none_each (keys n)) + (length (slots_of es) + j) =
    omega (arith, length-append (values n) (slots_of es), length-values n, length-keys n, none_length (keys n)) in
    ap (λ k. slice_index_or (none_each (keys n) ++ scopes (tree_of (es ++ applied i m ∷ ds))) k None) e
    ∙ get_or-append-add (none_each (keys n)) (scopes (tree_of (es ++ applied i m ∷ ds))) (length (slots_of es) + j) None
    ∙ scope_in_child es i m ds j h
scope_in_child (name y ∷ es) i m ds j h =
    let e : suc (length (slots_of es)) + j ≡ suc (length (slots_of es) + j) = omega arith in
    ap (λ s. slice_index_or s (suc (length (slots_of es)) + j) None) (scopes-with_slot (tree_of (es ++ applied i m ∷ ds)))
    ∙ ap (λ k. slice_index_or (front (tree_of (es ++ applied i m ∷ ds)) ∷ scopes (tree_of (es ++ applied i m ∷ ds))) k None) e
    ∙ scope_in_child es i m ds j h

-- the same keys make the same tree
pub same_keys : (es : List Element) (i : ℕ) (m n : List (ℕ × ℕ)) (ds : List Element) → keys m ≡ keys n →
    tree_of (es ++ applied i m ∷ ds) ≡ tree_of (es ++ applied i n ∷ ds)
same_keys [] i m n ds h = ap (λ ks. child i ks (tree_of ds)) h
same_keys (text w ∷ es) i m n ds h = same_keys es i m n ds h
same_keys (applied k o ∷ es) i m n ds h = ap (λ t. child k (keys o) t) (same_keys es i m n ds h)
same_keys (name x ∷ es) i m n ds h = ap with_slot (same_keys es i m n ds h)

-- trees of arguments and their names tell the arguments
with_slot_parts : (t u : Tree) → with_slot t ≡ with_slot u → t ≡ u
with_slot_parts leaf leaf h = refl
with_slot_parts (own r) (own s) h = cc
with_slot_parts (child i ks r) (child j ls s) h =
    let b = tree_bind (child i ks leaf) (child j ls leaf) r s h in
    let c = tree_child i j ks ls leaf leaf b.0 in
    let x = c.0 in let y = c.1 in let z = b.1 in cc
with_slot_parts (bind u r) (bind v s) h =
    let b = tree_bind (bind u leaf) (bind v leaf) r s h in
    let c = tree_bind u v leaf leaf b.0 in
    let x = c.0 in let z = b.1 in cc
with_slot_parts t u h = absurd (cc)

no_child_in_front : (t : Tree) (i : ℕ) (ks : List ℕ) (r : Tree) → with_slot t ≡ child i ks r → ⊥
no_child_in_front leaf i ks r h = cc
no_child_in_front (own s) i ks r h = cc
no_child_in_front (child j ls s) i ks r h = cc
no_child_in_front (bind u s) i ks r h = cc

pub arguments_told : (args bs : List Argument) → tree_of (elements args) ≡ tree_of (elements bs) →
    slots_of (elements args) ≡ slots_of (elements bs) → elements args ≡ elements bs
arguments_told [] [] t n = refl
arguments_told [] (Slot y ∷ bs) t n = cc
arguments_told [] (Child b ∷ bs) t n = cc
arguments_told (Slot x ∷ args) [] t n = cc
arguments_told (Child a ∷ args) [] t n = cc
arguments_told (Slot x ∷ args) (Slot y ∷ bs) t n =
    let p = cons_parts x y (slots_of (elements args)) (slots_of (elements bs)) n in
    let q = arguments_told args bs (with_slot_parts (tree_of (elements args)) (tree_of (elements bs)) t) p.1 in
    ap (λ z. name z ∷ elements args) p.0 ∙ ap (λ es. name y ∷ es) q
arguments_told (Slot x ∷ args) (Child b ∷ bs) t n = absurd (no_child_in_front (tree_of (elements args)) b.id.0 (keys b.m) (tree_of (elements bs)) t)
arguments_told (Child a ∷ args) (Slot y ∷ bs) t n = absurd (no_child_in_front (tree_of (elements bs)) a.id.0 (keys a.m) (tree_of (elements args)) (sym t))
arguments_told (Child a ∷ args) (Child b ∷ bs) t n =
    let c = tree_child a.id.0 b.id.0 (keys a.m) (keys b.m) (tree_of (elements args)) (tree_of (elements bs)) t in
    let l : length (values a.m) ≡ length (values b.m) = omega (arith, ap length c.1, length-values a.m, length-keys a.m, length-values b.m, length-keys b.m) in
    let p = append_parts (values a.m) (values b.m) (slots_of (elements args)) (slots_of (elements bs)) l n in
    let m : a.m ≡ b.m = pairs_same a.m b.m c.1 p.0 in
    let q = arguments_told args bs c.2 p.1 in
    ap (λ i. applied i a.m ∷ elements args) c.0 ∙ (ap (λ o. applied b.id.0 o ∷ elements args) m ∙ ap (λ es. applied b.id.0 b.m ∷ es) q)
