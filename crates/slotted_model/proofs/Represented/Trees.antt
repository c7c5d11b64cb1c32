-- Canonical terms are trees, and trees stand for themselves.
use Rattle.std.proofs.Common.{◌≡◌, ℕ, zero, suc, ◌<◌, List, length, sym, ◌∙◌, ap, refl, subst, arith}
use Rattle.slotted_theory.specs.Nameless.{DArgs, DTerm, stop, place, sub, scope, lift, moved, moved_args}
use Rattle.slotted_theory.specs.FiniteMaps.{filled}
use Rattle.slotted_theory.proofs.Values.{node, child_before, expand_args, expand, IsOwn}
use Rattle.slotted_model.specs.Applied.{Applied, IsMap, IsNode, EachChild}
use Rattle.slotted_model.specs.Classes.{term_by, stands, terms, canonical_node, canonical_term, term_of, IsFull, Canonical}
use Rattle.slotted_model.specs.Trees.{HasNoIds, IsTree}
use Rattle.slotted_model.proofs.Represented.Children.{EachChild-map, expand-child}
use Rattle.slotted_model.proofs.Represented.Full.{full-ascending, canonical_term-layer}

HasNoIds-moved : (f : ℕ → ℕ) (d : DArgs) → HasNoIds d → HasNoIds (moved_args f d)
HasNoIds-moved f stop h = tt
HasNoIds-moved f (place x rest) h = HasNoIds-moved f rest h
HasNoIds-moved f (sub op payloads args rest) h = (h.0, HasNoIds-moved f args h.1, HasNoIds-moved f rest h.2)
HasNoIds-moved f (scope inner rest) h = (HasNoIds-moved (lift f) inner h.0, HasNoIds-moved f rest h.1)

pub IsTree-moved : (f : ℕ → ℕ) (t : DTerm) → IsTree t → IsTree (moved f t)
IsTree-moved f t h = record { operator = h.operator; children = HasNoIds-moved f t.args h.children }

-- a node over ids that stand for trees stands for a tree
HasNoIds-expand : (ts : List DTerm) (d : DArgs) → EachChild (λ a. IsTree (term_by ts a)) d → HasNoIds (expand_args (stands ts) d)
HasNoIds-expand ts stop c = tt
HasNoIds-expand ts (place x rest) c = HasNoIds-expand ts rest c
HasNoIds-expand ts (sub op payloads args rest) c =
    let t : IsTree (expand (stands ts) (node op payloads args)) = subst IsTree (sym (expand-child ts (λ a. IsTree (term_by ts a)) (node op payloads args) c.0)) c.0.2 in
    (t.operator, t.children, HasNoIds-expand ts rest c.1)
HasNoIds-expand ts (scope inner rest) c = (HasNoIds-expand ts inner c.0, HasNoIds-expand ts rest c.1)

tree_below : (nodes : List DTerm) → Canonical nodes → (n i : ℕ) → i < n → i < length nodes → IsTree (canonical_term nodes i)
tree_below nodes can zero i h l = absurd (omega arith)
tree_below nodes can (suc n) i h l =
    subst IsTree (sym (canonical_term-layer nodes can i l)) (record {
      operator = can.operators i l;
      children = HasNoIds-expand (terms nodes) (canonical_node nodes i).args
          (EachChild-map (λ a. (a.0 < i) × IsFull nodes a) (λ a. IsTree (term_of nodes a)) (λ a k. IsTree-moved (filled a.1) (canonical_term nodes a.0) (tree_below nodes can n a.0 (omega (arith, k.0)) k.1.in_range)) (canonical_node nodes i).args (can.children i l));
    })

-- the term of a full id is a tree
pub term_of-tree : (nodes : List DTerm) → Canonical nodes → (a : Applied) → IsFull nodes a → IsTree (term_of nodes a)
term_of-tree nodes can a full = IsTree-moved (filled a.1) (canonical_term nodes a.0) (tree_below nodes can (suc a.0) a.0 (omega arith) full.in_range)

-- an operator of the language stands for itself
pub IsOwn-operator : (ts : List DTerm) (op : ℕ) → 0 < op → IsOwn (stands ts) op
IsOwn-operator ts zero h payloads args = absurd (omega arith)
IsOwn-operator ts (suc op) h payloads args = refl

expand_args-tree : (ts : List DTerm) (d : DArgs) → HasNoIds d → expand_args (stands ts) d ≡ d
expand_args-tree ts stop h = refl
expand_args-tree ts (place x rest) h = ap (place x) (expand_args-tree ts rest h)
expand_args-tree ts (sub op payloads args rest) h =
    let e : expand (stands ts) (node op payloads args) ≡ node op payloads args =
    IsOwn-operator ts op h.0 payloads (expand_args (stands ts) args) ∙ ap (node op payloads) (expand_args-tree ts args h.1) in
    λ i. child_before (e i) (expand_args-tree ts rest h.2 i)
expand_args-tree ts (scope inner rest) h = λ i. scope (expand_args-tree ts inner h.0 i) (expand_args-tree ts rest h.1 i)

-- an operator of the language over full ids is a node
pub IsNode-full : (nodes : List DTerm) (d : DTerm) → 0 < d.op → EachChild (IsFull nodes) d.args → IsNode d
IsNode-full nodes d h c = record {
  operator = h;
  children = EachChild-map (IsFull nodes) (λ a. IsMap a.1) (λ a full. (full-ascending nodes a full, full.injective)) d.args c;
}
