-- A child of a canonical node with an id's names put in is an id of the class of a child, so what is too large there is a part of the
-- node's own canonical term.
use Rattle.std.proofs.Common.{◌≡◌, ◌<◌, ℕ, zero, suc, List, [], ◌∷◌, length, take, drop, sym, ap, refl, subst, inl, inr, arith}
use Rattle.std.specs.Prelude.{slice_index, slice_index_or}
use Rattle.slotted_lists.proofs.Members.{In, In-append}
use Rattle.slotted_theory.specs.Nameless.{DArgs, DTerm, stop, place, sub, scope, extend, lift, moved, moved_args, nameless_args}
use Rattle.slotted_nodes.specs.Form.{Form, Tree, leaf, own, child, bind, scopes}
use Rattle.slotted_languages.specs.NodeTerm.{node_args}
use Rattle.slotted_theory.specs.FiniteMaps.{filled}
use Rattle.slotted_model.specs.Applied.{Applied}
use Rattle.slotted_model.specs.Classes.{canonical_node}
use Rattle.slotted_operations.specs.Canonical.{IsNodeOf}
use Rattle.slotted_operations.specs.Causes.{HasChildOf, HasLargePart}
use Rattle.slotted_operations.specs.Nodes.{ids_in, child_ids}

-- names that are put in change no class
child_of-moved : (f : ℕ → ℕ) (d : DArgs) (c : ℕ) → HasChildOf (moved_args f d) c → HasChildOf d c
child_of-moved f stop c h = h
child_of-moved f (place x rest) c h = child_of-moved f rest c h
child_of-moved f (sub op payloads args rest) c (inl e) = inl e
child_of-moved f (sub op payloads args rest) c (inr h) = inr (child_of-moved f rest c h)
child_of-moved f (scope inner rest) c (inl h) = inl (child_of-moved (lift f) inner c h)
child_of-moved f (scope inner rest) c (inr h) = inr (child_of-moved f rest c h)

-- the children of a node have these classes
child_of-in : (ρ : ℕ → ℕ) (t : Tree) (xs : List ℕ) (a : Applied) → In a (ids_in t xs) → HasChildOf (nameless_args ρ (node_args t xs)) a.0
child_of-in ρ leaf xs a h = h
child_of-in ρ (own r) xs a h = child_of-in ρ r (drop 1 xs) a h
child_of-in ρ (child i ks r) xs a (inl e) = inl (sym (ap (λ (y : Applied). y.0) e))
child_of-in ρ (child i ks r) xs a (inr h) = inr (child_of-in ρ r (drop (length ks) xs) a h)
child_of-in ρ (bind u r) xs a h =
    let m = length (scopes u) in
    elim (In-append a (ids_in u (take m (drop 1 xs))) (ids_in r (drop m (drop 1 xs))) h) [
      | inl p ↦ inl (child_of-in (extend (slice_index xs 0) ρ) u (take m (drop 1 xs)) a p)
      | inr q ↦ inr (child_of-in ρ r (drop m (drop 1 xs)) a q)
    ]

at_in : (xs : List Applied) (k : ℕ) (d : Applied) → k < length xs → In (slice_index_or xs k d) xs
at_in [] k d l = absurd (omega arith)
at_in (x ∷ xs) zero d l = inl refl
at_in (x ∷ xs) (suc k) d l = inr (at_in xs k d (omega (arith, l)))

-- so where the term of a child has too large a node, that of the id has
pub large_child_part : (nodes : List DTerm) (a : Applied) (f : Form) → IsNodeOf nodes a f → (k : ℕ) (d : Applied) → k < length (child_ids f) → (b : Applied) → b ≡ slice_index_or (child_ids f) k d → HasLargePart nodes b.0 → HasLargePart nodes a.0
large_child_part nodes a f is k d lt b at part =
    let among : In b (child_ids f) = subst (λ y. In y (child_ids f)) (sym at) (at_in (child_ids f) k d lt) in
    let here : HasChildOf (moved (filled a.1) (canonical_node nodes a.0)).args b.0 = subst (λ (t : DTerm). HasChildOf t.args b.0) is (child_of-in (λ x. x) f.tree f.names b among) in
    let c : HasChildOf (canonical_node nodes a.0).args b.0 = child_of-moved (filled a.1) (canonical_node nodes a.0).args b.0 here in
    (suc part.0, part.1, (b.0, c, part.2), part.3)
