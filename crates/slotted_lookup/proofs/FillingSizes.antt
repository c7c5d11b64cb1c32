-- How much larger a node gets when its children are filled: by no more names than they lack; and full children lack none.
use Rattle.std.proofs.Common.{◌≡◌, ◌≢◌, ℕ, ◌+◌, ◌≤◌, List, [], ◌∷◌, ◌++◌, length, take, drop, refl, slice_index, ap, ◌∙◌, sym, subst, true≢false, arith, inl, inr, length-append}
use Rattle.std.specs.Prelude.{Option, Some, None, IsSome, min}
use Rattle.std.specs.List.{zip}
use Rattle.std.proofs.lemmas.Bool.{ne_eqb, cases_eq}
use Rattle.std.proofs.lemmas.Slice.Zip.{length-zip}
use Rattle.slotted_lists.proofs.Members.{In}
use Rattle.slotted_lists.proofs.Each.{Each, Each-from_All}
use Rattle.slotted_theory.specs.Nameless.{extend, nameless_args}
use Rattle.slotted_slots.specs.Maps.{keys, value_of}
use Rattle.slotted_nodes.specs.Form.{Form, Tree, leaf, own, child, bind, scopes, children}
use Rattle.slotted_languages.specs.NodeTerm.{node_args, nameless_node}
use Rattle.slotted_languages.specs.Shape.{Fits}
use Rattle.slotted_languages.proofs.NodeTerms.{own_fits, length-child, child_keys_fit, child_rest_fits, bind_inner_fits, bind_rest_fits}
use Rattle.slotted_model.specs.Applied.{Applied}
use Rattle.slotted_model.specs.Ascending.{IsBelowAll, IsAscending}
use Rattle.slotted_model.specs.Classes.{canonical_slots, IsFull}
use Rattle.slotted_model.proofs.Represented.Fillings.{slots-ascending}
use Rattle.slotted_classes.specs.ChildIds.{ids_in, child_ids}
use Rattle.slotted_classes.specs.Kept.{Kept, nodes_of}
use Rattle.slotted_classes.proofs.ChildIds.{length-ids}
use Rattle.slotted_languages.specs.Sizes.{args_size, node_size}
use Rattle.slotted_languages.proofs.NodeSizes.{names_in}
use Rattle.slotted_languages.proofs.Counting.{In-value}
use Rattle.slotted_lookup.specs.Filling.{HasFullChildren, lack, lacked, named, filled_id, filled_ids, filled_node, missing, missing_in, missing_of, tree_over, names_over, node_over}
use Rattle.slotted_lookup.proofs.ChildFillings.{length-filled}
use Rattle.slotted_lookup.proofs.NodesOver.{length-over, over_fits, child_ids-over}

-- slots without a name

lack-one : (o : Option ℕ) → lack o ≤ 1
lack-one None = omega arith
lack-one (Some x) = omega arith

value-later : (p : ℕ × ℕ) (m : List (ℕ × ℕ)) (s : ℕ) → p.0 ≢ s → value_of (p ∷ m) s ≡ value_of m s
value-later p m s n = rw (ne_eqb p.0 s n) refl

-- a pair names no slot above its own
lacked-above : (p : ℕ × ℕ) (m : List (ℕ × ℕ)) (ss : List ℕ) → IsBelowAll p.0 ss → lacked (p ∷ m) ss ≡ lacked m ss
lacked-above p m [] b = refl
lacked-above p m (s ∷ ss) b =
    let other : p.0 ≢ s = omega (arith, b.0) in
    λ i. lack (value-later p m s other i) + lacked-above p m ss b.1 i

-- and of different slots no more than one
lacked-pair : (p : ℕ × ℕ) (m : List (ℕ × ℕ)) (ss : List ℕ) → IsAscending ss → lacked m ss ≤ lacked (p ∷ m) ss + 1
lacked-pair p m [] a = omega arith
lacked-pair p m (s ∷ ss) a = elim (cases_eq p.0 s) [
  | inl e ↦ omega (arith, lack-one (value_of m s), lacked-above p m ss (subst (λ x. IsBelowAll x ss) (sym e) a.0))
  | inr n ↦
      let same : lack (value_of (p ∷ m) s) ≡ lack (value_of m s) = ap lack (value-later p m s n) in
      omega (arith, same, lacked-pair p m ss a.1)
]

lacked-all : (ss : List ℕ) → lacked [] ss ≡ length ss
lacked-all [] = refl
lacked-all (s ∷ ss) = omega (arith, lacked-all ss)

-- each slot has a name or lacks one
slots-counted : (m : List (ℕ × ℕ)) (ss : List ℕ) → IsAscending ss → length ss ≤ lacked m ss + length m
slots-counted [] ss a = omega (arith, lacked-all ss)
slots-counted (p ∷ m) ss a = omega (arith, slots-counted m ss a, lacked-pair p m ss a)

-- where all have names none lacks one

lack-none : (o : Option ℕ) → IsSome o → lack o ≡ 0
lack-none None h = absurd (true≢false (sym h))
lack-none (Some x) h = refl

lacked-none : (m : List (ℕ × ℕ)) (ss : List ℕ) → ((s : ℕ) → In s ss → IsSome (value_of m s)) → lacked m ss ≡ 0
lacked-none m [] h = refl
lacked-none m (s ∷ ss) h = omega (arith, lack-none (value_of m s) (h s (inl refl)), lacked-none m ss (λ x i. h x (inr i)))

-- a full id lacks no name
pub missing-full : (k : Kept) (a : Applied) → IsFull (nodes_of k) a → missing k a ≡ 0
missing-full k a full = ap (lacked a.1) (sym full.slots) ∙ lacked-none a.1 (keys a.1) (In-value a.1)

missing-each : (k : Kept) (ps : List Applied) → Each (IsFull (nodes_of k)) ps → missing_in k ps ≡ 0
missing-each k [] h = refl
missing-each k (p ∷ ps) h = omega (arith, missing-full k p h.0, missing-each k ps h.1)

-- nor do full children
pub missing_of-full : (k : Kept) (f : Form) → HasFullChildren k f → missing_of k f ≡ 0
missing_of-full k f full = missing-each k (child_ids f) (Each-from_All (IsFull (nodes_of k)) (child_ids f) full)

-- names of ids

-- how many names some ids have
abbrev total : List Applied → ℕ
total [] = 0
total (a ∷ rest) = length a.1 + total rest

total-append : (ps qs : List Applied) → total (ps ++ qs) ≡ total ps + total qs
total-append [] qs = omega arith
total-append (p ∷ ps) qs = omega (arith, total-append ps qs)

names-filled : (k : Kept) (c : ℕ) (a : Applied) → length (filled_id k c a).1 ≤ length a.1 + missing k a
names-filled k c a =
    let ss = canonical_slots (nodes_of k) a.0 in
    let n : length (zip ss (named c a.1 ss)) ≡ min (length ss) (length (named c a.1 ss)) = length-zip ss (named c a.1 ss) in
    omega (arith, n, slots-counted a.1 ss (slots-ascending (nodes_of k) a.0))

total-filled : (k : Kept) (c : ℕ) (ps : List Applied) → total (filled_ids k c ps) ≤ total ps + missing_in k ps
total-filled k c [] = omega arith
total-filled k c (p ∷ ps) = omega (arith, names-filled k c p, total-filled k (c + missing k p) ps)

-- places of a node

-- the places that stand beside the children: own ones and binders
abbrev bare : Tree → ℕ
bare leaf = 0
bare (own r) = 1 + bare r
bare (child i ks r) = bare r
bare (bind u r) = 1 + bare u + bare r

-- the places are these and the names of the children
places-are : (t : Tree) (xs : List ℕ) → length xs ≡ length (scopes t) → length xs ≡ bare t + total (ids_in t xs)
places-are leaf xs n = omega (arith, n)
places-are (own r) xs n = omega (arith, n, own_fits r xs n, places-are r (drop 1 xs) (own_fits r xs n))
places-are (child i ks r) xs n =
    let vs = take (length ks) xs in
    let z : length (zip ks vs) ≡ min (length ks) (length vs) = length-zip ks vs in
    omega (arith, n, z, length-child i ks r, child_keys_fit i ks r xs n, child_rest_fits i ks r xs n, places-are r (drop (length ks) xs) (child_rest_fits i ks r xs n))
places-are (bind u r) xs n =
    let m = length (scopes u) in
    let inner = take m (drop 1 xs) in
    let rest = drop m (drop 1 xs) in
    omega (
      arith,
      n,
      length-append (scopes u) (scopes r),
      bind_inner_fits u r xs n,
      bind_rest_fits u r xs n,
      total-append (ids_in u inner) (ids_in r rest),
      places-are u inner (bind_inner_fits u r xs n),
      places-are r rest (bind_rest_fits u r xs n),
    )

-- over other ids the former stay
bare-over : (t : Tree) (bs : List Applied) → bare (tree_over t bs) ≡ bare t
bare-over leaf bs = refl
bare-over (own r) bs = ap (λ n. 1 + n) (bare-over r bs)
bare-over (child i ks r) [] = refl
bare-over (child i ks r) (b ∷ bs) = bare-over r bs
bare-over (bind u r) bs = λ i. 1 + bare-over u (take (length (children u)) bs) i + bare-over r (drop (length (children u)) bs) i

-- the size of a node is its places and its children
size-in : (ρ : ℕ → ℕ) (t : Tree) (xs : List ℕ) → length xs ≡ length (scopes t) → args_size (nameless_args ρ (node_args t xs)) ≡ length xs + length (children t)
size-in ρ leaf xs n = omega (arith, n)
size-in ρ (own r) xs n = omega (arith, n, own_fits r xs n, size-in ρ r (drop 1 xs) (own_fits r xs n))
size-in ρ (child i ks r) xs n =
    omega (
      arith,
      n,
      length-child i ks r,
      names_in ρ (take (length ks) xs),
      child_keys_fit i ks r xs n,
      child_rest_fits i ks r xs n,
      size-in ρ r (drop (length ks) xs) (child_rest_fits i ks r xs n),
    )
size-in ρ (bind u r) xs n =
    let m = length (scopes u) in
    omega (
      arith,
      n,
      length-append (scopes u) (scopes r),
      length-append (children u) (children r),
      bind_inner_fits u r xs n,
      bind_rest_fits u r xs n,
      size-in (extend (slice_index xs 0) ρ) u (take m (drop 1 xs)) (bind_inner_fits u r xs n),
      size-in ρ r (drop m (drop 1 xs)) (bind_rest_fits u r xs n),
    )

pub node_size-is : (f : Form) → Fits f → node_size (nameless_node f) ≡ length f.names + length (children f.tree)
node_size-is f fits = size-in (λ x. x) f.tree f.names fits

-- the node with each child filled

pub filled_node-places : (k : Kept) (c : ℕ) (f : Form) → Fits f → length (filled_node k c f).names ≤ length f.names + missing_of k f
filled_node-places k c f fits =
    let bs = filled_ids k c (child_ids f) in
    let count : length bs ≡ length (children f.tree) = length-filled k c (child_ids f) ∙ length-ids f.tree f.names in
    let same : total (child_ids (node_over f bs)) ≡ total bs = ap total (child_ids-over f bs fits count) in
    omega (
      arith,
      places-are f.tree f.names fits,
      places-are (tree_over f.tree bs) (names_over f.tree f.names bs) (over_fits f.tree f.names bs fits),
      bare-over f.tree bs,
      same,
      total-filled k c (child_ids f),
    )

pub filled_node-size : (k : Kept) (c : ℕ) (f : Form) → Fits f → node_size (nameless_node (filled_node k c f)) ≤ node_size (nameless_node f) + missing_of k f
filled_node-size k c f fits =
    let bs = filled_ids k c (child_ids f) in
    omega (
      arith,
      node_size-is f fits,
      node_size-is (filled_node k c f) (over_fits f.tree f.names bs fits),
      length-over f.tree bs,
      filled_node-places k c f fits,
    )
