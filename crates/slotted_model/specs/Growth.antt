-- A new class, and what canonical nodes that extend others keep.
use Rattle.std.specs.Prelude.{◌≡◌, ℕ, ◌<◌, List, length, Some}
use Rattle.slotted_theory.specs.Nameless.{DTerm}
use Rattle.slotted_theory.specs.Shape.{shape, SameUpToNames}
use Rattle.slotted_model.specs.Applied.{Applied, map_on, EachChild}
use Rattle.slotted_model.specs.Classes.{canonical_node, canonical_term, canonical_slots, term_of, layer_of, IsFull, Canonical}
use Rattle.slotted_model.specs.Ids.{class_with_names, id_of}

-- a node of the language over full applied ids, whose shape no canonical node has
pub record IsNew (nodes : List DTerm) (c : DTerm) : Type 0 where
  pub operator : 0 < c.op
  pub children : EachChild (IsFull nodes) c.args
  pub shape_is_new : (i : ℕ) → i < length nodes → ¬ (shape (canonical_node nodes i) ≡ shape c)

-- the class with its own slots as names
abbrev pub identity_id : List DTerm → ℕ → Applied
identity_id nodes i = (i, map_on (λ s. s) (canonical_slots nodes i))

-- classes, terms, full ids, what nodes stand for and the ids of trees stay what they were
pub record Extends (older newer : List DTerm) : Type 0 where
  pub classes : (i : ℕ) → i < length older → (i < length newer) × (canonical_node newer i ≡ canonical_node older i)
  pub canonical_terms : (i : ℕ) → i < length older → canonical_term newer i ≡ canonical_term older i
  pub full : (a : Applied) → IsFull older a → IsFull newer a
  pub terms : (a : Applied) → IsFull older a → term_of newer a ≡ term_of older a
  pub layers : (d : DTerm) → EachChild (IsFull older) d.args → layer_of newer d ≡ layer_of older d
  pub ids : (t : DTerm) (a : Applied) → id_of older t ≡ Some a → id_of newer t ≡ Some a

-- the last class is new: it stands for the node c over what the children stand for, and, with the names of any node d of
-- this shape, for d over what its children stand for
pub record Added (older newer : List DTerm) (c : DTerm) : Type 0 where
  pub canonical : Canonical newer
  pub extends : Extends older newer
  pub full : IsFull newer (identity_id newer (length older))
  pub term : term_of newer (identity_id newer (length older)) ≡ layer_of older c
  pub full_with_names : (d : DTerm) → SameUpToNames c d → IsFull newer (class_with_names newer d (length older))
  pub term_with_names : (d : DTerm) → SameUpToNames c d → term_of newer (class_with_names newer d (length older)) ≡ layer_of older d
