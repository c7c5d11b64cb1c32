-- How many nodes the canonical terms of ids have: those of their children, and one.
use Rattle.std.proofs.Common.{◌≡◌, ℕ, suc, ◌+◌, List, [], ◌∷◌, ◌++◌, length, take, drop, sym, ◌∙◌, ap, refl, arith}
use Rattle.std.specs.Prelude.{slice_index}
use Rattle.slotted_theory.specs.Nameless.{DArgs, DTerm, stop, place, sub, scope, extend, lift, moved_args, nameless_args}
use Rattle.slotted_theory.specs.FiniteMaps.{filled}
use Rattle.slotted_theory.proofs.Values.{expand_args}
use Rattle.slotted_nodes.specs.Form.{Form, Tree, leaf, own, child, bind, scopes}
use Rattle.slotted_languages.specs.NodeTerm.{own_names, node_args, nameless_node}
use Rattle.slotted_model.specs.Applied.{Applied, applied_of}
use Rattle.slotted_model.specs.Classes.{canonical_term, term_at, term_of, terms, layer_of, stands, IsFull, Canonical}
use Rattle.slotted_model.proofs.Represented.Full.{term_of-layer}
use Rattle.slotted_operations.specs.Canonical.{IsNodeOf}
use Rattle.slotted_operations.specs.Nodes.{ids_in, child_ids}

abbrev args_subs : DArgs → ℕ
args_subs stop = 0
args_subs (place x rest) = args_subs rest
args_subs (sub op payloads args rest) = suc (args_subs args) + args_subs rest
args_subs (scope inner rest) = args_subs inner + args_subs rest

args_subs-moved : (ρ : ℕ → ℕ) (d : DArgs) → args_subs (moved_args ρ d) ≡ args_subs d
args_subs-moved ρ stop = refl
args_subs-moved ρ (place x rest) = args_subs-moved ρ rest
args_subs-moved ρ (sub op payloads args rest) = λ i. suc (args_subs-moved ρ args i) + args_subs-moved ρ rest i
args_subs-moved ρ (scope inner rest) = λ i. args_subs-moved (lift ρ) inner i + args_subs-moved ρ rest i

abbrev pub ids_nodes : List DTerm → List Applied → ℕ
ids_nodes nodes [] = 0
ids_nodes nodes (a ∷ ids) = suc (args_subs (canonical_term nodes a.0).args) + ids_nodes nodes ids

pub ids_nodes-append : (nodes : List DTerm) (ids more : List Applied) → ids_nodes nodes (ids ++ more) ≡ ids_nodes nodes ids + ids_nodes nodes more
ids_nodes-append nodes [] more = omega arith
ids_nodes-append nodes (a ∷ ids) more = omega (arith, ids_nodes-append nodes ids more)

-- a node over the terms of its children has their nodes
expanded_subs : (nodes : List DTerm) (ρ : ℕ → ℕ) (t : Tree) (xs : List ℕ) → args_subs (expand_args (stands (terms nodes)) (nameless_args ρ (node_args t xs))) ≡ ids_nodes nodes (ids_in t xs)
expanded_subs nodes ρ leaf xs = refl
expanded_subs nodes ρ (own r) xs = expanded_subs nodes ρ r (drop 1 xs)
expanded_subs nodes ρ (child i ks r) xs =
    let given = applied_of ((i ∷ ks) ∷ []) (expand_args (stands (terms nodes)) (nameless_args ρ (own_names (take (length ks) xs)))) in
    omega (arith, args_subs-moved (filled given.1) (term_at (terms nodes) i).args, expanded_subs nodes ρ r (drop (length ks) xs))
expanded_subs nodes ρ (bind u r) xs =
    let s = length (scopes u) in
    omega (arith, expanded_subs nodes (extend (slice_index xs 0) ρ) u (take s (drop 1 xs)), expanded_subs nodes ρ r (drop s (drop 1 xs)), ids_nodes-append nodes (ids_in u (take s (drop 1 xs))) (ids_in r (drop s (drop 1 xs))))

-- so the term of an id has one node more than its children together
pub children_nodes : (nodes : List DTerm) → Canonical nodes → (a : Applied) → IsFull nodes a → (f : Form) → IsNodeOf nodes a f → ids_nodes nodes (a ∷ []) ≡ suc (ids_nodes nodes (child_ids f))
children_nodes nodes can a full f is =
    let given : args_subs (term_of nodes a).args ≡ args_subs (canonical_term nodes a.0).args = args_subs-moved (filled a.1) (canonical_term nodes a.0).args in
    let layered : args_subs (term_of nodes a).args ≡ args_subs (layer_of nodes (nameless_node f)).args = ap (λ (d : DTerm). args_subs d.args) (term_of-layer nodes can a full) ∙ ap (λ (d : DTerm). args_subs (layer_of nodes d).args) (sym is) in
    omega (arith, given, layered, expanded_subs nodes (λ x. x) f.tree f.names)
