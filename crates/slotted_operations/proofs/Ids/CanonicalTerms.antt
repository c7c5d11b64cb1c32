-- Canonical nodes and terms with the names of an id put in.
use Rattle.std.proofs.Common.{◌≡◌, ◌<◌, ℕ, suc, List, [], ◌∷◌, length, get_or, take, drop, sym, ◌∙◌, ap, refl, subst, arith, length-append}
use Rattle.std.specs.Prelude.{slice_index_or, slice_index, slice_set}
use Rattle.std.specs.List.{zip}
use Rattle.slotted_lists.proofs.Members.{In}
use Rattle.slotted_lists.proofs.Each.{Each, Each-join}
use Rattle.slotted_lists.proofs.Maps.{IsInjectiveMap-before, zip-keys_values, length-values, length-keys, keys-with_values}
use Rattle.slotted_theory.specs.Term.{Term, Args}
use Rattle.slotted_theory.specs.Nameless.{DTerm, extend, nameless_args, nameless, moved}
use Rattle.slotted_theory.specs.Renaming.{IsInjective}
use Rattle.slotted_theory.specs.FiniteMaps.{filled}
use Rattle.slotted_theory.proofs.Names.{extend-injective}
use Rattle.slotted_slots.specs.Maps.{keys, values, KnowsAll}
use Rattle.slotted_nodes.specs.Form.{Form, Tree, leaf, own, child, bind, scopes, children, with_child}
use Rattle.slotted_nodes.specs.Joined.{length_children-with_child_in}
use Rattle.slotted_languages.specs.Filled as form
use Rattle.slotted_languages.specs.Shape.{Fits}
use Rattle.slotted_languages.specs.NodeTerm.{own_names, node_args, nameless_node, free_names_of}
use Rattle.slotted_languages.proofs.NodeTerms.{own_fits, length-child, child_keys_fit, child_rest_fits, bind_inner_fits, bind_rest_fits}
use Rattle.slotted_model.specs.Applied.{Applied, renamed_id, EachChild}
use Rattle.slotted_model.specs.Ascending.{names}
use Rattle.slotted_model.specs.Classes.{canonical_node, canonical_slots, term_of, layer_of, terms, IsFull, Canonical}
use Rattle.slotted_model.proofs.Data.Sets.{In-ascending}
use Rattle.slotted_model.proofs.Represented.Folds.{as_term-same}
use Rattle.slotted_model.proofs.Represented.Full.{term_of-layer, full-children}
use Rattle.slotted_operations.specs.Nodes.{ids_in, child_ids}
use Rattle.slotted_operations.specs.Canonical.{args_count, place_count}
use Rattle.slotted_languages.specs.Beside.{IsBeside}
use Rattle.slotted_languages.proofs.Counting.{In-value}
use Rattle.slotted_classes.proofs.NameMaps.{In-at}
use Rattle.slotted_classes.proofs.ChildIds.{atom-is, length-ids}
use Rattle.slotted_operations.proofs.TermsOverIds.Children.{plugs}
use Rattle.slotted_operations.proofs.TermsOverIds.Layers.{expand-filled, match-from, each_at}

-- what holds of each child of the nameless form, and of an id where it holds of a renamed one, holds of each child

Each-from_EachChild : (P Q : Applied → Type 0) → ((f : ℕ → ℕ) → IsInjective f → (a : Applied) → P (renamed_id f a) → Q a) → (ρ : ℕ → ℕ) → IsInjective ρ → (t : Tree) (xs : List ℕ) → length xs ≡ length (scopes t) → EachChild P (nameless_args ρ (node_args t xs)) → Each Q (ids_in t xs)
Each-from_EachChild P Q back ρ inj leaf xs n h = tt
Each-from_EachChild P Q back ρ inj (own r) xs n h = Each-from_EachChild P Q back ρ inj r (drop 1 xs) (own_fits r xs n) h
Each-from_EachChild P Q back ρ inj (child i ks r) xs n h =
    let vs = take (length ks) xs in
    let same : h.0.0 ≡ renamed_id ρ (i, zip ks vs) = as_term-same h.0.0 (renamed_id ρ (i, zip ks vs)) (sym h.0.1 ∙ atom-is ρ i ks vs (child_keys_fit i ks r xs n)) in (
      back ρ inj (i, zip ks vs) (subst P same h.0.2),
      Each-from_EachChild P Q back ρ inj r (drop (length ks) xs) (child_rest_fits i ks r xs n) h.1,
    )
Each-from_EachChild P Q back ρ inj (bind u r) xs n h =
    let m = length (scopes u) in
    Each-join Q (ids_in u (take m (drop 1 xs))) (ids_in r (drop m (drop 1 xs)))
    (Each-from_EachChild P Q back (extend (slice_index xs 0) ρ) (extend-injective (slice_index xs 0) ρ inj) u (take m (drop 1 xs)) (bind_inner_fits u r xs n) h.0)
    (Each-from_EachChild P Q back ρ inj r (drop m (drop 1 xs)) (bind_rest_fits u r xs n) h.1)

-- an id is full where a renamed one is

full-back : (nodes : List DTerm) (f : ℕ → ℕ) (a : Applied) → IsFull nodes (renamed_id f a) → IsFull nodes a
full-back nodes f a full = record {
  in_range = full.in_range;
  slots = sym (keys-with_values f a.1) ∙ full.slots;
  injective = IsInjectiveMap-before f a.1 full.injective;
}

-- an earlier full id
abbrev pub IsBelow : List DTerm → ℕ → Applied → Type 0
IsBelow nodes i b = (b.0 < i) × IsFull nodes b

-- the children of a canonical node with an id's names put in are full and earlier
pub children-below : (nodes : List DTerm) → Canonical nodes → (a : Applied) → IsFull nodes a → (f : Form) → Fits f → nameless_node f ≡ moved (filled a.1) (canonical_node nodes a.0) → (k : ℕ) (d : Applied) → k < length (children f.tree) → IsBelow nodes a.0 (slice_index_or (child_ids f) k d)
children-below nodes can a full f fits is k d lt =
    let each : EachChild (IsBelow nodes a.0) (nameless_node f).args = subst (λ (t : DTerm). EachChild (IsBelow nodes a.0) t.args) (sym is) (full-children nodes can a full) in
    let all = Each-from_EachChild (IsBelow nodes a.0) (IsBelow nodes a.0) (λ g inj b h. (h.0, full-back nodes g b h.1)) (λ x. x) (λ x y e. e) f.tree f.names fits each in
    each_at (IsBelow nodes a.0) (child_ids f) k d (omega (arith, lt, length-ids f.tree f.names)) all

-- the term over the terms of the children
pub canonical-term : (nodes : List DTerm) → Canonical nodes → (a : Applied) → IsFull nodes a → (f h : Form) → Fits f → nameless_node f ≡ moved (filled a.1) (canonical_node nodes a.0) → IsBeside f h → (us : List Term) → length us ≡ length (children f.tree) → ((j : ℕ) (d : Applied) (e : Term) → j < length us → nameless (slice_index_or us j e) ≡ term_of nodes (slice_index_or (child_ids f) j d)) → nameless (form.term_of h us) ≡ term_of nodes a
canonical-term nodes can a full f h fits is beside us n each =
    let m = match-from nodes can (child_ids f) us (length-ids f.tree f.names ∙ sym n) (λ j d e l. ((children-below nodes can a full f fits is j d (omega (arith, l, n))).1, sym (each j d e l))) in
    let e = expand-filled (terms nodes) (λ x. x) f.tree f.names us fits m in
    let layered : layer_of nodes (nameless_node f) ≡ nameless (form.term_of h us) =
    λ i. record { op = suc (sym beside.operator i); payloads = sym beside.payloads i; args = (e ∙ ap (λ (x : Args). nameless_args (λ y. y) x) (sym (beside.outline us n))) i } in
    sym layered ∙ (ap (layer_of nodes) is ∙ sym (term_of-layer nodes can a full))

-- the keys of a full id are the names of its node
pub knows-names : (nodes : List DTerm) (a : Applied) → IsFull nodes a → (f : Form) → nameless_node f ≡ canonical_node nodes a.0 → KnowsAll a.1 (free_names_of f)
knows-names nodes a full f is k d lt =
    let x = get_or (free_names_of f) k d in
    let here : In x (canonical_slots nodes a.0) = subst (λ (t : DTerm). In x (names t)) is (In-ascending x (free_names_of f) (In-at (free_names_of f) k d lt)) in
    In-value a.1 x (subst (In x) (sym full.slots) here)

-- each place is a name or a binder

names_counted : (ρ : ℕ → ℕ) (xs : List ℕ) → args_count (nameless_args ρ (own_names xs)) ≡ length xs
names_counted ρ [] = refl
names_counted ρ (x ∷ xs) = omega (arith, names_counted ρ xs)

places_in : (ρ : ℕ → ℕ) (t : Tree) (xs : List ℕ) → length xs ≡ length (scopes t) → args_count (nameless_args ρ (node_args t xs)) ≡ length xs
places_in ρ leaf xs n = sym n
places_in ρ (own r) xs n = omega (arith, n, own_fits r xs n, places_in ρ r (drop 1 xs) (own_fits r xs n))
places_in ρ (child i ks r) xs n =
    omega (arith, n, length-child i ks r, names_counted ρ (take (length ks) xs), child_keys_fit i ks r xs n, child_rest_fits i ks r xs n, places_in ρ r (drop (length ks) xs) (child_rest_fits i ks r xs n))
places_in ρ (bind u r) xs n =
    let m = length (scopes u) in
    omega (arith, n, length-append (scopes u) (scopes r), bind_inner_fits u r xs n, bind_rest_fits u r xs n, places_in (extend (slice_index xs 0) ρ) u (take m (drop 1 xs)) (bind_inner_fits u r xs n), places_in ρ r (drop m (drop 1 xs)) (bind_rest_fits u r xs n))

pub places-counted : (f : Form) → Fits f → place_count (nameless_node f) ≡ length f.names
places-counted f fits = places_in (λ x. x) f.tree f.names fits

-- another child beside the same
pub beside-itself : (f : Form) → IsBeside f f
beside-itself f = record { operator = refl; payloads = refl; count = refl; outline = λ us n. refl }

pub beside-step : (f h : Form) (k : ℕ) (a : Applied) → Fits h → k < length (children f.tree) → IsBeside f h → IsBeside f (with_child h k a.0 (keys a.1) (values a.1))
beside-step f h k a fits lt b =
    let n : length (values a.1) ≡ length (keys a.1) = length-values a.1 ∙ sym (length-keys a.1) in
    let q = plugs h.tree h.names k a.0 (keys a.1) (values a.1) fits (omega (arith, b.count, lt)) n in
    record {
      operator = b.operator;
      payloads = b.payloads;
      count = length_children-with_child_in h.tree k a.0 (keys a.1) ∙ b.count;
      outline = λ us z. q.1 us (z ∙ sym b.count) ∙ b.outline us z;
    }

-- an id in the place of a child
pub child_set : (h : Form) (k : ℕ) (a : Applied) → Fits h → k < length (children h.tree) → child_ids (with_child h k a.0 (keys a.1) (values a.1)) ≡ slice_set (child_ids h) k a
child_set h k a fits lt =
    let n : length (values a.1) ≡ length (keys a.1) = length-values a.1 ∙ sym (length-keys a.1) in
    (plugs h.tree h.names k a.0 (keys a.1) (values a.1) fits lt n).0 ∙ ap (λ (y : List (ℕ × ℕ)). slice_set (child_ids h) k (a.0, y)) (zip-keys_values a.1)
