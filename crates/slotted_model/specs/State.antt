-- The whole graph as lists: classes with their finds and proofs, the filed nodes, what waits to be filed anew, and the listed symmetries.
--     State              these lists
--     filed_node r       the node that a row files
--     look_up_node g d   the id of a node over valid ids, by the shape of its normal form
--     look_up_tree g t   the id of a tree, child by child
--     HasTouched g c w   w is what waits when the rows over the class c wait too
use Rattle.std.specs.Prelude.{◌≡◌, ◌⊎◌, ℕ, List, [], ◌∷◌, ◌++◌, map, Contains, Option, Some, None, option_map, cond, slice_index_or}
use Rattle.slotted_theory.specs.Nameless.{DArgs, DTerm, stop, place, sub, scope, moved}
use Rattle.slotted_theory.specs.FiniteMaps.{filled}
use Rattle.slotted_theory.specs.Shape.{free_names, shape}
use Rattle.slotted_model.specs.Applied.{Applied, applied_of}
use Rattle.slotted_model.specs.Classes.{canonical_node}
use Rattle.slotted_model.specs.Correspondence.{AllDifferent, identity, turned}
use Rattle.slotted_model.specs.Find.{Entry, find}
use Rattle.slotted_model.specs.Ids.{term_eq}
use Rattle.slotted_model.specs.LookUp.{look_up}
use Rattle.slotted_model.specs.Normal.{normal}
use Rattle.slotted_model.specs.ProofList.{ProofEntry}

-- a filed node: its shape, the class that it comes from, and the canonical slot of that class for each number of the shape
pub record Row : Type 0 where
  pub shape : DTerm
  pub source : ℕ
  pub slots : List (ℕ × ℕ)

-- a listed symmetry: a class equals itself with the slots that it had in another order, by the proof of this number
pub record Symmetry : Type 0 where
  pub class : ℕ
  pub slots : List ℕ
  pub pairs : List (ℕ × ℕ)
  pub proof : ℕ

-- canonical nodes and find entries by class id, the proof list, the filed nodes, the sources of the rows that wait to be filed anew, and the listed symmetries
pub record State : Type 0 where
  pub nodes : List DTerm
  pub found : List Entry
  pub proofs : List ProofEntry
  pub rows : List Row
  pub waiting : List ℕ
  pub symmetries : List Symmetry

-- the sources of rows
abbrev pub sources : List Row → List ℕ
sources rows = map (λ (r : Row). r.source) rows

-- the node that a row files, over canonical slots of its source
abbrev pub filed_node : Row → DTerm
filed_node r = moved (filled r.slots) r.shape

-- the canonical node of a class in normal form
abbrev pub normal_node : State → ℕ → DTerm
normal_node g i = normal g.found (canonical_node g.nodes i)

-- the first row of this shape
abbrev pub row_of : DTerm → List Row → Option Row
row_of s [] = None
row_of s (r ∷ rows) = cond (term_eq r.shape s) (Some r) (row_of s rows)

-- the free name of a node that has this number in the node's shape
abbrev pub name_numbered : DTerm → ℕ → ℕ
name_numbered d k = slice_index_or (free_names d.args) k 0

-- the source of a row, with the names that a node of the row's shape has for its slots
abbrev pub source_with_names : DTerm → Row → Applied
source_with_names d r = (r.source, map (λ (p : ℕ × ℕ). (p.1, name_numbered d p.0)) r.slots)

-- the id of a node in normal form: what the source of the row of its shape finds, with the node's names put in
abbrev pub look_up_normal : State → DTerm → Option Applied
look_up_normal g d = option_map (λ (r : Row). find g.found (source_with_names d r)) (row_of (shape d) g.rows)

-- the id of a node over valid ids
abbrev pub look_up_node : State → DTerm → Option Applied
look_up_node g d = look_up_normal g (normal g.found d)

-- the id of a tree
abbrev pub look_up_tree : State → DTerm → Option Applied
look_up_tree g t = look_up (look_up_node g) t

-- the two sides of a listed symmetry: the class with its slots, and with the slot s in the place of t for each pair (s, t)
abbrev pub left_of : Symmetry → Applied
left_of y = (y.class, identity y.slots)

abbrev pub right_of : Symmetry → Applied
right_of y = (y.class, turned y.slots y.pairs)

-- the classes of the children
abbrev pub child_classes : DArgs → List ℕ
child_classes stop = []
child_classes (place x rest) = child_classes rest
child_classes (sub op payloads args rest) = (applied_of payloads args).0 ∷ child_classes rest
child_classes (scope inner rest) = child_classes inner ++ child_classes rest

-- the source of a row over the class c
abbrev pub IsOver : State → ℕ → ℕ → Type 0
IsOver g c o = (r : Row) × Contains g.rows r × Contains (child_classes r.shape.args) c × (r.source ≡ o)

-- these wait when the rows over the class c wait too, in whatever order: all that waited, and the sources of the rows over c
pub record HasTouched (g : State) (c : ℕ) (waiting : List ℕ) : Type 0 where
  pub once : AllDifferent waiting
  pub kept : (o : ℕ) → Contains g.waiting o → Contains waiting o
  pub over : (r : Row) → Contains g.rows r → Contains (child_classes r.shape.args) c → Contains waiting r.source
  pub from : (o : ℕ) → Contains waiting o → Contains g.waiting o ⊎ IsOver g c o
