-- A node over ids of terms has no more places than the term.
use Rattle.std.proofs.Common.{◌≡◌, ◌<◌, ◌≤◌, ℕ, zero, suc, ◌+◌, List, [], ◌∷◌, ◌++◌, length, take, drop, map, get_or, sym, ◌∙◌, ap, refl, arith, length-append}
use Rattle.std.specs.Prelude.{Option, None, slice_index}
use Rattle.std.specs.List.{zip}
use Rattle.slotted_lists.proofs.Maps.{length-values, length-keys}
use Rattle.slotted_lists.proofs.Lists.{length-map_names}
use Rattle.slotted_theory.specs.Term.{Args, Term, done, name}
use Rattle.slotted_theory.specs.Term as term
use Rattle.slotted_theory.specs.Nameless.{DTerm, extend, nameless_args, nameless}
use Rattle.slotted_theory.specs.FiniteMaps.{filled}
use Rattle.slotted_theory.specs.Shape.{outside, free_names}
use Rattle.slotted_slots.specs.Maps.{keys, values}
use Rattle.slotted_nodes.specs.Form.{Form, Tree, leaf, own, child, bind, scopes, children}
use Rattle.slotted_languages.specs.Filled as form
use Rattle.slotted_languages.specs.NodeTerm.{node_args, nameless_node}
use Rattle.slotted_languages.proofs.NodeTerms.{own_fits, child_keys_fit, child_rest_fits, bind_inner_fits, bind_rest_fits}
use Rattle.slotted_model.specs.Ascending.{ascending}
use Rattle.slotted_model.specs.Applied.{Applied}
use Rattle.slotted_model.specs.Classes.{canonical_term, term_of, IsFull, Canonical}
use Rattle.slotted_model.proofs.Represented.Full.{canonical_term-names}
use Rattle.slotted_model.proofs.Data.Theory.{free_names-moved}
use Rattle.slotted_languages.specs.Sizes.{args_size, node_size}
use Rattle.slotted_languages.proofs.NodeSizes.{names_in}
use Rattle.slotted_operations.specs.Nodes.{ids_in, child_ids}
use Rattle.slotted_operations.specs.Places.{args_places, term_places}
use Rattle.slotted_classes.proofs.ChildIds.{length-ids}
use Rattle.slotted_classes.proofs.NameCounts.{length-ascending, length-outside}

pub free_fit : (ρ : ℕ → ℕ) (a : Args) → length (free_names (nameless_args ρ a)) ≤ args_places a
free_fit ρ done = omega arith
free_fit ρ (name x rest) = omega (arith, free_fit ρ rest)
free_fit ρ (term.child op payloads args rest) =
    omega (arith, length-append (free_names (nameless_args ρ args)) (free_names (nameless_args ρ rest)), free_fit ρ args, free_fit ρ rest)
free_fit ρ (term.bind x inner rest) =
    omega (arith, length-append (outside (free_names (nameless_args (extend x ρ) inner))) (free_names (nameless_args ρ rest)), length-outside (free_names (nameless_args (extend x ρ) inner)), free_fit (extend x ρ) inner, free_fit ρ rest)

-- an id has no more names than its term has places
names_fit : (nodes : List DTerm) → Canonical nodes → (a : Applied) → IsFull nodes a → (u : Term) → term_of nodes a ≡ nameless u → length (values a.1) ≤ args_places u.args
names_fit nodes can a full u e =
    let c : DTerm = canonical_term nodes a.0 in
    let k : length (keys a.1) ≡ length (ascending (free_names c.args)) = ap length full.slots ∙ sym (ap length (canonical_term-names nodes can a.0 full.in_range)) in
    let f : length (free_names c.args) ≡ length (free_names (nameless u).args) =
    sym (length-map_names (filled a.1) (free_names c.args)) ∙ (ap length (sym (free_names-moved (filled a.1) c.args)) ∙ ap (λ (t : DTerm). length (free_names t.args)) e) in
    omega (arith, length-values a.1, length-keys a.1, k, f, length-ascending (free_names c.args), free_fit (λ x. x) u.args)

-- each id has no more names than its term has places
abbrev pub Bounded : List Applied → List Term → Type 0
Bounded [] [] = Unit {0}
Bounded [] (u ∷ us) = ⊥
Bounded (a ∷ ids) [] = ⊥
Bounded (a ∷ ids) (u ∷ us) = (length (values a.1) ≤ args_places u.args) × Bounded ids us

bounded-split : (ids more : List Applied) (us : List Term) (n : ℕ) → length ids ≡ n → Bounded (ids ++ more) us → Bounded ids (take n us) × Bounded more (drop n us)
bounded-split [] more us zero e m = (tt, m)
bounded-split [] more us (suc n) e m = absurd (omega (arith, e))
bounded-split (a ∷ ids) more us zero e m = absurd (omega (arith, e))
bounded-split (a ∷ ids) more [] (suc n) e m = absurd m
bounded-split (a ∷ ids) more (u ∷ us) (suc n) e m = let r = bounded-split ids more us n (omega (arith, e)) m.1 in ((m.0, r.0), r.1)

values-zip : (ks vs : List ℕ) → length vs ≡ length ks → length (values (zip ks vs)) ≡ length ks
values-zip [] vs e = refl
values-zip (k ∷ ks) [] e = absurd (omega (arith, e))
values-zip (k ∷ ks) (v ∷ vs) e = ap suc (values-zip ks vs (omega (arith, e)))

pub places_fit : (t : Tree) (xs : List ℕ) (us : List Term) → length xs ≡ length (scopes t) → Bounded (ids_in t xs) us → length (scopes t) ≤ args_places (form.filled t xs us)
places_fit leaf xs us n m = omega arith
places_fit (own r) xs us n m = omega (arith, places_fit r (drop 1 xs) us (own_fits r xs n) m)
places_fit (child i ks r) xs [] n m = absurd m
places_fit (child i ks r) xs (u ∷ us) n m =
    omega (arith, length-append (map {B = Option ℕ} (λ _. None) ks) (scopes r), length-none ks, m.0, values-zip ks (take (length ks) xs) (child_keys_fit i ks r xs n), places_fit r (drop (length ks) xs) us (child_rest_fits i ks r xs n) m.1)
  where
    length-none : (zs : List ℕ) → length (map {B = Option ℕ} (λ _. None) zs) ≡ length zs
    length-none [] = refl
    length-none (z ∷ zs) = ap suc (length-none zs)
places_fit (bind u r) xs us n m =
    let s = length (scopes u) in
    let c = length (children u) in
    let q = bounded-split (ids_in u (take s (drop 1 xs))) (ids_in r (drop s (drop 1 xs))) us c (length-ids u (take s (drop 1 xs))) m in
    omega (arith, length-append (scopes u) (scopes r), places_fit u (take s (drop 1 xs)) (take c us) (bind_inner_fits u r xs n) q.0, places_fit r (drop s (drop 1 xs)) (drop c us) (bind_rest_fits u r xs n) q.1)

bounded-from : (nodes : List DTerm) → Canonical nodes → (ids : List Applied) (us : List Term) → length ids ≡ length us → ((j : ℕ) (d : Applied) (e : Term) → j < length us → IsFull nodes (get_or ids j d) × (term_of nodes (get_or ids j d) ≡ nameless (get_or us j e))) → Bounded ids us
bounded-from nodes can [] [] n h = tt
bounded-from nodes can [] (u ∷ us) n h = absurd (omega (arith, n))
bounded-from nodes can (a ∷ ids) [] n h = absurd (omega (arith, n))
bounded-from nodes can (a ∷ ids) (u ∷ us) n h =
    let p = h 0 a u (omega arith) in
    (names_fit nodes can a p.0 u p.1, bounded-from nodes can ids us (omega (arith, n)) (λ j d e l. h (suc j) d e (omega arith)))

-- a node over ids of these terms has no more places than the node over the terms
pub node_fits : (nodes : List DTerm) → Canonical nodes → (h : Form) (us : List Term) → length h.names ≡ length (scopes h.tree) → length us ≡ length (children h.tree) → ((j : ℕ) (d : Applied) (e : Term) → j < length us → IsFull nodes (get_or (child_ids h) j d) × (term_of nodes (get_or (child_ids h) j d) ≡ nameless (get_or us j e))) → length h.names ≤ args_places (form.filled h.tree h.names us)
node_fits nodes can h us n c ids =
    omega (arith, n, places_fit h.tree h.names us n (bounded-from nodes can (child_ids h) us (length-ids h.tree h.names ∙ sym c) ids))

-- the places of the children of a term are places of the term

abbrev total : List Term → ℕ
total [] = 0
total (u ∷ us) = term_places u + total us

total-at : (us : List Term) (k : ℕ) (d : Term) → k < length us → term_places (get_or us k d) ≤ total us
total-at [] k d l = absurd (omega arith)
total-at (u ∷ us) zero d l = omega arith
total-at (u ∷ us) (suc k) d l = omega (arith, total-at us k d (omega (arith, l)))

total-parts : (n : ℕ) (us : List Term) → total (take n us) + total (drop n us) ≡ total us
total-parts zero us = omega arith
total-parts (suc n) [] = omega arith
total-parts (suc n) (u ∷ us) = omega (arith, total-parts n us)

total_le-children : (us : List Term) → total us ≤ args_places (form.children_args us)
total_le-children [] = omega arith
total_le-children (u ∷ us) = omega (arith, total_le-children us)

total_le-filled : (t : Tree) (xs : List ℕ) (us : List Term) → total us ≤ args_places (form.filled t xs us)
total_le-filled leaf xs [] = omega arith
total_le-filled leaf xs (u ∷ us) = omega (arith, total_le-children us)
total_le-filled (own r) xs us = omega (arith, total_le-filled r (drop 1 xs) us)
total_le-filled (child i ks r) xs [] = omega arith
total_le-filled (child i ks r) xs (u ∷ us) = omega (arith, total_le-filled r (drop (length ks) xs) us)
total_le-filled (bind u r) xs us =
    omega (arith, total_le-filled u (take (length (scopes u)) (drop 1 xs)) (take (length (children u)) us), total_le-filled r (drop (length (scopes u)) (drop 1 xs)) (drop (length (children u)) us), total-parts (length (children u)) us)

-- a child has no more places than the term
pub child_places_fit : (f : Form) (us : List Term) (k : ℕ) (d : Term) → k < length us → term_places (get_or us k d) ≤ term_places (form.term_of f us)
child_places_fit f us k d l = omega (arith, total-at us k d l, total_le-filled f.tree f.names us)

-- nor more places, binders and children than the term's size

places-size : (a : Args) → args_places a ≤ term.args_size a
places-size done = omega arith
places-size (name x rest) = omega (arith, places-size rest)
places-size (term.child op payloads args rest) = omega (arith, places-size args, places-size rest)
places-size (term.bind x inner rest) = omega (arith, places-size inner, places-size rest)

pub size_fit : (ρ : ℕ → ℕ) (t : Tree) (xs : List ℕ) (us : List Term) → length xs ≡ length (scopes t) → Bounded (ids_in t xs) us → args_size (nameless_args ρ (node_args t xs)) ≤ term.args_size (form.filled t xs us)
size_fit ρ leaf xs us n m = omega arith
size_fit ρ (own r) xs us n m = omega (arith, size_fit ρ r (drop 1 xs) us (own_fits r xs n) m)
size_fit ρ (child i ks r) xs [] n m = absurd m
size_fit ρ (child i ks r) xs (u ∷ us) n m =
    omega (arith, names_in ρ (take (length ks) xs), child_keys_fit i ks r xs n, m.0, values-zip ks (take (length ks) xs) (child_keys_fit i ks r xs n), places-size u.args, size_fit ρ r (drop (length ks) xs) us (child_rest_fits i ks r xs n) m.1)
size_fit ρ (bind u r) xs us n m =
    let s = length (scopes u) in
    let c = length (children u) in
    let q = bounded-split (ids_in u (take s (drop 1 xs))) (ids_in r (drop s (drop 1 xs))) us c (length-ids u (take s (drop 1 xs))) m in
    omega (arith, size_fit (extend (slice_index xs 0) ρ) u (take s (drop 1 xs)) (take c us) (bind_inner_fits u r xs n) q.0, size_fit ρ r (drop s (drop 1 xs)) (drop c us) (bind_rest_fits u r xs n) q.1)

-- a node over ids of these terms
pub node_size_fits : (nodes : List DTerm) → Canonical nodes → (h : Form) (us : List Term) → length h.names ≡ length (scopes h.tree) → length us ≡ length (children h.tree) → ((j : ℕ) (d : Applied) (e : Term) → j < length us → IsFull nodes (get_or (child_ids h) j d) × (term_of nodes (get_or (child_ids h) j d) ≡ nameless (get_or us j e))) → node_size (nameless_node h) ≤ term.args_size (form.filled h.tree h.names us)
node_size_fits nodes can h us n c ids =
    size_fit (λ x. x) h.tree h.names us n (bounded-from nodes can (child_ids h) us (length-ids h.tree h.names ∙ sym c) ids)
