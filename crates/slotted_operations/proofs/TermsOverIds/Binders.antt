-- Binders are counted alike in a node, in its nameless form and in its term: a canonical term has those of its node and those of
-- its children's terms.
use Rattle.std.proofs.Common.{◌≡◌, ◌<◌, ◌≤◌, ℕ, ◌+◌, List, [], ◌∷◌, ◌++◌, length, take, drop, sym, ◌∙◌, ap, refl, arith}
use Rattle.std.specs.Prelude.{slice_index, map, Option, None}
use Rattle.slotted_theory.specs.Nameless.{DArgs, DTerm, stop, place, sub, scope, extend, lift, moved_args, nameless_args}
use Rattle.slotted_theory.specs.FiniteMaps.{filled}
use Rattle.slotted_theory.proofs.Values.{expand_args}
use Rattle.slotted_nodes.specs.Form.{Form, Tree, leaf, own, child, bind, scopes}
use Rattle.slotted_languages.specs.Children.{binders}
use Rattle.slotted_languages.specs.NodeTerm.{own_names, node_args, nameless_node}
use Rattle.slotted_languages.specs.Shape.{Fits}
use Rattle.slotted_model.specs.Applied.{Applied, applied_of}
use Rattle.slotted_model.specs.Classes.{canonical_node, canonical_term, term_at, term_of, terms, layer_of, stands, IsFull, Canonical}
use Rattle.slotted_model.proofs.Represented.Full.{canonical_term-layer, term_of-layer}
use Rattle.slotted_operations.specs.Canonical.{args_binders, binder_count, IsNodeOf}
use Rattle.slotted_classes.proofs.NameCounts.{binders_placed, binding-append, keys_bind_nothing, places_binding}
use Rattle.slotted_operations.specs.Nodes.{ids_in, child_ids}
use Rattle.slotted_operations.specs.Syn.{node_binders, term_binders}

-- other names, as many binders
pub args_binders-moved : (ρ : ℕ → ℕ) (d : DArgs) → args_binders (moved_args ρ d) ≡ args_binders d
args_binders-moved ρ stop = refl
args_binders-moved ρ (place x rest) = args_binders-moved ρ rest
args_binders-moved ρ (sub op payloads args rest) = λ i. args_binders-moved ρ args i + args_binders-moved ρ rest i
args_binders-moved ρ (scope inner rest) = λ i. 1 + args_binders-moved (lift ρ) inner i + args_binders-moved ρ rest i

-- its binders are as many as stand at the places of the node

names_bind_nothing : (ρ : ℕ → ℕ) (xs : List ℕ) → args_binders (nameless_args ρ (own_names xs)) ≡ 0
names_bind_nothing ρ [] = refl
names_bind_nothing ρ (x ∷ xs) = names_bind_nothing ρ xs

binders_in : (ρ : ℕ → ℕ) (t : Tree) (xs : List ℕ) → args_binders (nameless_args ρ (node_args t xs)) ≡ places_binding (scopes t)
binders_in ρ leaf xs = refl
binders_in ρ (own r) xs = omega (arith, binders_in ρ r (drop 1 xs))
binders_in ρ (child i ks r) xs =
    omega (arith, names_bind_nothing ρ (take (length ks) xs), binders_in ρ r (drop (length ks) xs), binding-append (map {B = Option ℕ} (λ _. None) ks) (scopes r), keys_bind_nothing ks)
binders_in ρ (bind u r) xs =
    let s = length (scopes u) in
    omega (arith, binders_in (extend (slice_index xs 0) ρ) u (take s (drop 1 xs)), binders_in ρ r (drop s (drop 1 xs)), binding-append (scopes u) (scopes r))

-- the binders of a node are those of its nameless form
pub binders_counted : (f : Form) → Fits f → binders f ≡ binder_count (nameless_node f)
binders_counted f fits = binders_placed f fits ∙ sym (binders_in (λ x. x) f.tree f.names)

-- how many binders the terms of some ids have
abbrev pub ids_binders : List DTerm → List Applied → ℕ
ids_binders nodes [] = 0
ids_binders nodes (a ∷ ids) = term_binders nodes a.0 + ids_binders nodes ids

pub ids_binders-append : (nodes : List DTerm) (ids more : List Applied) → ids_binders nodes (ids ++ more) ≡ ids_binders nodes ids + ids_binders nodes more
ids_binders-append nodes [] more = omega arith
ids_binders-append nodes (a ∷ ids) more = omega (arith, ids_binders-append nodes ids more)

-- a node over the terms of its children has its own binders and theirs
expanded_binders : (nodes : List DTerm) (ρ : ℕ → ℕ) (t : Tree) (xs : List ℕ) → args_binders (expand_args (stands (terms nodes)) (nameless_args ρ (node_args t xs))) ≡ args_binders (nameless_args ρ (node_args t xs)) + ids_binders nodes (ids_in t xs)
expanded_binders nodes ρ leaf xs = omega arith
expanded_binders nodes ρ (own r) xs = omega (arith, expanded_binders nodes ρ r (drop 1 xs))
expanded_binders nodes ρ (child i ks r) xs =
    let given = applied_of ((i ∷ ks) ∷ []) (expand_args (stands (terms nodes)) (nameless_args ρ (own_names (take (length ks) xs)))) in
    omega (arith, args_binders-moved (filled given.1) (term_at (terms nodes) i).args, names_bind_nothing ρ (take (length ks) xs), expanded_binders nodes ρ r (drop (length ks) xs))
expanded_binders nodes ρ (bind u r) xs =
    let s = length (scopes u) in
    omega (arith, expanded_binders nodes (extend (slice_index xs 0) ρ) u (take s (drop 1 xs)), expanded_binders nodes ρ r (drop s (drop 1 xs)), ids_binders-append nodes (ids_in u (take s (drop 1 xs))) (ids_in r (drop s (drop 1 xs))))

layer_binders : (nodes : List DTerm) (f : Form) → binder_count (layer_of nodes (nameless_node f)) ≡ binder_count (nameless_node f) + ids_binders nodes (child_ids f)
layer_binders nodes f = expanded_binders nodes (λ x. x) f.tree f.names

-- so has the canonical term of a class
pub node_within : (nodes : List DTerm) → Canonical nodes → (i : ℕ) → i < length nodes → (f : Form) → nameless_node f ≡ canonical_node nodes i → node_binders nodes i ≤ term_binders nodes i
node_within nodes can i lt f is =
    let e : term_binders nodes i ≡ binder_count (layer_of nodes (nameless_node f)) = ap binder_count (canonical_term-layer nodes can i lt) ∙ ap (λ (d : DTerm). binder_count (layer_of nodes d)) (sym is) in
    omega (arith, e, layer_binders nodes f, ap binder_count is)

-- and the canonical term of an id, whose node is f
module _ (nodes : List DTerm) (can : Canonical nodes) (a : Applied) (full : IsFull nodes a) (f : Form) (is : IsNodeOf nodes a f) where
  pub parts_counted : term_binders nodes a.0 ≡ node_binders nodes a.0 + ids_binders nodes (child_ids f)
  parts_counted =
      let given : binder_count (term_of nodes a) ≡ term_binders nodes a.0 = args_binders-moved (filled a.1) (canonical_term nodes a.0).args in
      let own : binder_count (nameless_node f) ≡ node_binders nodes a.0 = ap binder_count is ∙ args_binders-moved (filled a.1) (canonical_node nodes a.0).args in
      let layered : binder_count (term_of nodes a) ≡ binder_count (layer_of nodes (nameless_node f)) = ap binder_count (term_of-layer nodes can a full) ∙ ap (λ (d : DTerm). binder_count (layer_of nodes d)) (sym is) in
      omega (arith, given, own, layered, layer_binders nodes f)
