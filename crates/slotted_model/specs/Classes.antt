-- Canonical nodes, by class id, and the terms that they and applied ids stand for.
--     term_of nodes a      the canonical term of an applied id
--     layer_of nodes d     the node d with the canonical term of each child in the child's place
--     IsFull nodes a       an applied id with a name for each canonical slot
--     Canonical nodes      children are earlier and full, and different classes have nodes of different shapes
use Rattle.std.specs.Prelude.{◌≡◌, ℕ, zero, suc, ◌<◌, List, [], ◌∷◌, ◌++◌, length, slice_index_or}
use Rattle.slotted_theory.specs.Nameless.{DTerm, stop, moved}
use Rattle.slotted_theory.specs.FiniteMaps.{IsInjectiveMap, filled}
use Rattle.slotted_theory.specs.Shape.{shape}
use Rattle.slotted_theory.proofs.Values.{node, expand_args}
use Rattle.slotted_model.specs.Ascending.{names}
use Rattle.slotted_model.specs.Applied.{Applied, keys, applied_of, EachChild}

-- the term at a class id
abbrev pub term_at : List DTerm → ℕ → DTerm
term_at ts i = slice_index_or ts i (node 0 [] stop)

-- the term of an applied id, where ts are the terms of the classes: the class's term with the names put in
abbrev pub term_by : List DTerm → Applied → DTerm
term_by ts a = moved (filled a.1) (term_at ts a.0)

-- what a term with this operator stands for
abbrev pub stands_by : List DTerm → ℕ → DTerm → DTerm
stands_by ts zero d = term_by ts (applied_of d.payloads d.args)
stands_by ts (suc op) d = d

-- what a term stands for: an applied id for its term, and any other for itself
abbrev pub stands : List DTerm → DTerm → DTerm
stands ts d = stands_by ts d.op d

-- the node over what its children stand for
abbrev pub layer : List DTerm → DTerm → DTerm
layer ts d = node d.op d.payloads (expand_args (stands ts) d.args)

-- the terms ts of the first classes, and after them those of the canonical nodes that follow
abbrev pub terms_from : List DTerm → List DTerm → List DTerm
terms_from ts [] = ts
terms_from ts (c ∷ cs) = terms_from (ts ++ layer ts c ∷ []) cs

-- the canonical terms of the classes: each node over the terms before it
abbrev pub terms : List DTerm → List DTerm
terms nodes = terms_from [] nodes

-- the node that a class was made with
abbrev pub canonical_node : List DTerm → ℕ → DTerm
canonical_node nodes i = term_at nodes i

-- the term that a class was made with
abbrev pub canonical_term : List DTerm → ℕ → DTerm
canonical_term nodes i = term_at (terms nodes) i

-- the canonical term of an applied id
abbrev pub term_of : List DTerm → Applied → DTerm
term_of nodes a = term_by (terms nodes) a

-- the node over the canonical terms of its children
abbrev pub layer_of : List DTerm → DTerm → DTerm
layer_of nodes d = layer (terms nodes) d

-- the free names of the canonical node, ascending
abbrev pub canonical_slots : List DTerm → ℕ → List ℕ
canonical_slots nodes i = names (canonical_node nodes i)

-- one of the classes, with different names for exactly its canonical slots
pub record IsFull (nodes : List DTerm) (a : Applied) : Type 0 where
  pub in_range : a.0 < length nodes
  pub slots : keys a.1 ≡ canonical_slots nodes a.0
  pub injective : IsInjectiveMap a.1

-- what holds of the canonical nodes of each graph
pub record Canonical (nodes : List DTerm) : Type 0 where
  pub operators : (i : ℕ) → i < length nodes → 0 < (canonical_node nodes i).op
  pub children : (i : ℕ) → i < length nodes → EachChild (λ a. (a.0 < i) × IsFull nodes a) (canonical_node nodes i).args
  pub shapes : (i j : ℕ) → i < length nodes → j < length nodes → shape (canonical_node nodes i) ≡ shape (canonical_node nodes j) → i ≡ j
