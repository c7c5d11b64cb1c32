-- How many names a node has: the free ones, each once, and the binders are no more than its places.
use Rattle.std.proofs.Common.{◌≡◌, ◌<◌, ◌≤◌, ◌+◌, ℕ, zero, suc, List, [], ◌∷◌, ◌++◌, length, take, drop, take_all, cond, ◌∙◌, ap, refl, arith, inl, inr, length-append}
use Rattle.std.specs.Prelude.{nat_eq, slice_index, slice_index_or, map, Option, Some, None, is_some}
use Rattle.std.specs.List.{filter}
use Rattle.std.proofs.lemmas.Bool.{cases_lt, cases_eq, lt-ltb, le-ltb, eq-eqb, ne_eqb}
use Rattle.std.proofs.lemmas.List.Elements.{filter-append}
use Rattle.slotted_theory.specs.Nameless.{extend, nameless_args}
use Rattle.slotted_theory.specs.Shape.{outside, free_names}
use Rattle.slotted_nodes.specs.Form.{Form, Tree, leaf, own, child, bind, scopes, end_at}
use Rattle.slotted_languages.specs.Children.{below, binders, is_binder}
use Rattle.slotted_languages.specs.NodeTerm.{own_names, node_args, nameless_node}
use Rattle.slotted_languages.specs.Shape.{Fits}
use Rattle.slotted_languages.proofs.NodeTerms.{own_fits, length-child, child_keys_fit, child_rest_fits, bind_inner_fits, bind_rest_fits}
use Rattle.slotted_model.specs.Ascending.{with_name, ascending, names}

-- an ascending list has no more names

length-with_name : (x : ℕ) (ys : List ℕ) → length (with_name x ys) ≤ suc (length ys)
length-with_name x [] = omega arith
length-with_name x (y ∷ ys) = elim (cases_lt x y) [
  | inl l ↦
      let e : length (with_name x (y ∷ ys)) ≡ suc (suc (length ys)) = ap (λ b. length (cond b (x ∷ y ∷ ys) (cond (nat_eq x y) (y ∷ ys) (y ∷ with_name x ys)))) (lt-ltb x y l) in
      omega (arith, e)
  | inr g ↦
      let e : length (with_name x (y ∷ ys)) ≡ length (cond (nat_eq x y) (y ∷ ys) (y ∷ with_name x ys)) =
      ap (λ b. length (cond b (x ∷ y ∷ ys) (cond (nat_eq x y) (y ∷ ys) (y ∷ with_name x ys)))) (le-ltb x y g) in
      elim (cases_eq x y) [
        | inl q ↦
            let d : length (cond (nat_eq x y) (y ∷ ys) (y ∷ with_name x ys)) ≡ suc (length ys) = ap (λ b. length (cond b (y ∷ ys) (y ∷ with_name x ys))) (eq-eqb x y q) in
            omega (arith, e, d)
        | inr n ↦
            let d : length (cond (nat_eq x y) (y ∷ ys) (y ∷ with_name x ys)) ≡ suc (length (with_name x ys)) = ap (λ b. length (cond b (y ∷ ys) (y ∷ with_name x ys))) (ne_eqb x y n) in
            omega (arith, e, d, length-with_name x ys)
      ]
]

pub length-ascending : (xs : List ℕ) → length (ascending xs) ≤ length xs
length-ascending [] = omega arith
length-ascending (x ∷ xs) = omega (arith, length-with_name x (ascending xs), length-ascending xs)

pub length-outside : (xs : List ℕ) → length (outside xs) ≤ length xs
length-outside [] = omega arith
length-outside (zero ∷ xs) = omega (arith, length-outside xs)
length-outside (suc x ∷ xs) = omega (arith, length-outside xs)

-- at how many of the places binders stand

abbrev one_binder : Option ℕ → ℕ
one_binder None = 0
one_binder (Some n) = 1

abbrev pub places_binding : List (Option ℕ) → ℕ
places_binding [] = 0
places_binding (o ∷ os) = one_binder o + places_binding os

pub binding-append : (os ps : List (Option ℕ)) → places_binding (os ++ ps) ≡ places_binding os + places_binding ps
binding-append [] ps = omega arith
binding-append (o ∷ os) ps = omega (arith, binding-append os ps)

pub keys_bind_nothing : (ks : List ℕ) → places_binding (map {B = Option ℕ} (λ _. None) ks) ≡ 0
keys_bind_nothing [] = refl
keys_bind_nothing (k ∷ ks) = omega (arith, keys_bind_nothing ks)

binding-next : (os : List (Option ℕ)) (k : ℕ) → k < length os → places_binding (take (suc k) os) ≡ places_binding (take k os) + one_binder (slice_index_or os k None)
binding-next [] k l = absurd (omega arith)
binding-next (o ∷ os) zero l = omega arith
binding-next (o ∷ os) (suc k) l = omega (arith, binding-next os k (omega (arith, l)))

one_counted : (k : ℕ) (o : Option ℕ) → length (cond (is_some (end_at k o)) (k ∷ []) []) ≡ one_binder o
one_counted k None = refl
one_counted k (Some n) = refl

counted_below : (f : Form) (n : ℕ) → n ≤ length (scopes f.tree) → length (filter (is_binder f) (below n)) ≡ places_binding (take n (scopes f.tree))
counted_below f zero l = refl
counted_below f (suc n) l =
    let parts = ap (λ xs. length xs) (filter-append (is_binder f) (below n) (n ∷ [])) ∙ length-append (filter (is_binder f) (below n)) (filter (is_binder f) (n ∷ [])) in
    omega (arith, parts, counted_below f n (omega (arith, l)), one_counted n (slice_index_or (scopes f.tree) n None), binding-next (scopes f.tree) n (omega (arith, l)))

-- they are the binders of the node
pub binders_placed : (f : Form) → Fits f → binders f ≡ places_binding (scopes f.tree)
binders_placed f fits =
    counted_below f (length f.names) (omega (arith, fits))
    ∙ ap places_binding (take_all (length f.names) (scopes f.tree) (omega (arith, fits)))

-- and the free names stand at others

free_names-own : (ρ : ℕ → ℕ) (xs : List ℕ) → length (free_names (nameless_args ρ (own_names xs))) ≡ length xs
free_names-own ρ [] = refl
free_names-own ρ (x ∷ xs) = ap suc (free_names-own ρ xs)

free_fit : (ρ : ℕ → ℕ) (t : Tree) (xs : List ℕ) → length xs ≡ length (scopes t) → length (free_names (nameless_args ρ (node_args t xs))) + places_binding (scopes t) ≤ length (scopes t)
free_fit ρ leaf xs n = omega arith
free_fit ρ (own r) xs n = omega (arith, free_fit ρ r (drop 1 xs) (own_fits r xs n))
free_fit ρ (child i ks r) xs n =
    let us = free_names (nameless_args ρ (own_names (take (length ks) xs))) in
    let rs = free_names (nameless_args ρ (node_args r (drop (length ks) xs))) in
    omega (
      arith,
      length-append us rs,
      free_names-own ρ (take (length ks) xs),
      child_keys_fit i ks r xs n,
      length-child i ks r,
      binding-append (map {B = Option ℕ} (λ _. None) ks) (scopes r),
      keys_bind_nothing ks,
      free_fit ρ r (drop (length ks) xs) (child_rest_fits i ks r xs n),
    )
free_fit ρ (bind u r) xs n =
    let m = length (scopes u) in
    let us = free_names (nameless_args (extend (slice_index xs 0) ρ) (node_args u (take m (drop 1 xs)))) in
    let rs = free_names (nameless_args ρ (node_args r (drop m (drop 1 xs)))) in
    omega (
      arith,
      length-append (outside us) rs,
      length-outside us,
      length-append (scopes u) (scopes r),
      binding-append (scopes u) (scopes r),
      free_fit (extend (slice_index xs 0) ρ) u (take m (drop 1 xs)) (bind_inner_fits u r xs n),
      free_fit ρ r (drop m (drop 1 xs)) (bind_rest_fits u r xs n),
    )

pub names_and_binders : (f : Form) → Fits f → length (names (nameless_node f)) + binders f ≤ length f.names
names_and_binders f fits =
    omega (arith, fits, binders_placed f fits, free_fit (λ x. x) f.tree f.names fits, length-ascending (free_names (nameless_node f).args))
