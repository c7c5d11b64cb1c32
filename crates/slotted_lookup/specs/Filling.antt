-- What filling answers: the id with a fresh slot for each canonical slot of its class that it has no name for, and the node with each child filled.
--     MakesAtMost n t u          from t to u the table makes at most n fresh slots
--     RunsOut n t u              n more were not to be had
--     with_fresh n t             the table after n more fresh slots
--     named c m ss               the name of each slot, or the next fresh slot from the index c on
--     filled_id k c a            the id with a name for each canonical slot of its class
--     missing k a                how many names it lacks
--     node_over f bs             the node with these ids for its first children
--     filled_node k c f          the node with each child filled
--     missing_of k f             how many names its children lack
--     RunsOutForId, RunsOutForNode   so many fresh slots were not to be had
--     FillsId, FillsChildren     with known names, what was filled is a filling whatever known names are given
--     HasFullChildren k f        the children have names for just the canonical slots of their classes
--     MakesFull k t f g          with known names in f, g has full children
--     KeepsKnown t u xs ys       where t knows xs, u knows ys
--     HasOneNormalForm k f g     g has the normal form of f
use Rattle.std.specs.Prelude.{◌≡◌, ℕ, ◌+◌, ◌<◌, ◌≤◌, List, [], ◌∷◌, ◌++◌, length, take, drop, slice_index, Option, Some, None, unwrap_or, All}
use Rattle.std.specs.List.{zip}
use Rattle.slotted_slots.specs.Maps.{value_of, keys, values}
use Rattle.slotted_slots.specs.Table.{Table, AllKnown, fresh_slot, slot_limit}
use Rattle.slotted_nodes.specs.Form.{Form, Tree, leaf, own, child, bind, scopes, children}
use Rattle.slotted_languages.specs.NodeTerm.{nameless_node}
use Rattle.slotted_model.specs.Applied.{Applied}
use Rattle.slotted_model.specs.Classes.{canonical_slots, IsFull}
use Rattle.slotted_model.specs.Filling.{IsFilling, FillsNode}
use Rattle.slotted_model.specs.Normal.{normal}
use Rattle.slotted_classes.specs.ChildIds.{child_ids}
use Rattle.slotted_classes.specs.Kept.{Kept, nodes_of, entries_of}

-- the table keeps its names, and makes at most n fresh slots
pub record MakesAtMost (n : ℕ) (old new : Table) : Type 0 where
  pub names : new.names ≡ old.names
  pub taken : new.fresh ≤ old.fresh + n

-- of n fresh slots some were not to be had: fewer were left, and now none is
pub record RunsOut (n : ℕ) (old new : Table) : Type 0 where
  pub lacks : slot_limit < old.fresh + n
  pub used : new.fresh ≡ slot_limit

-- the table after n more fresh slots
abbrev pub with_fresh : ℕ → Table → Table
with_fresh n t = record t { fresh = t.fresh + n }

-- how many fresh slots stand in for a name: one where there is none
abbrev pub lack : Option ℕ → ℕ
lack None = 1
lack (Some x) = 0

-- how many of the slots have no name
abbrev pub lacked : List (ℕ × ℕ) → List ℕ → ℕ
lacked m [] = 0
lacked m (s ∷ ss) = lack (value_of m s) + lacked m ss

-- the name of each slot, or where it has none the next fresh slot from the index c on
abbrev pub named : ℕ → List (ℕ × ℕ) → List ℕ → List ℕ
named c m [] = []
named c m (s ∷ ss) = unwrap_or (value_of m s) (fresh_slot c) ∷ named (c + lack (value_of m s)) m ss

-- the id with a name for each canonical slot of its class
abbrev pub filled_id : Kept → ℕ → Applied → Applied
filled_id k c a = (a.0, zip (canonical_slots (nodes_of k) a.0) (named c a.1 (canonical_slots (nodes_of k) a.0)))

-- how many names it lacks
abbrev pub missing : Kept → Applied → ℕ
missing k a = lacked a.1 (canonical_slots (nodes_of k) a.0)

-- some ids filled, one after another, and how many names they lack
abbrev pub filled_ids : Kept → ℕ → List Applied → List Applied
filled_ids k c [] = []
filled_ids k c (a ∷ rest) = filled_id k c a ∷ filled_ids k (c + missing k a) rest

abbrev pub missing_in : Kept → List Applied → ℕ
missing_in k [] = 0
missing_in k (a ∷ rest) = missing k a + missing_in k rest

-- the tree with these ids for its first children, and its names
abbrev pub tree_over : Tree → List Applied → Tree
tree_over leaf bs = leaf
tree_over (own r) bs = own (tree_over r bs)
tree_over (child i ks r) [] = child i ks r
tree_over (child i ks r) (b ∷ bs) = child b.0 (keys b.1) (tree_over r bs)
tree_over (bind u r) bs = bind (tree_over u (take (length (children u)) bs)) (tree_over r (drop (length (children u)) bs))

abbrev pub names_over : Tree → List ℕ → List Applied → List ℕ
names_over leaf xs bs = xs
names_over (own r) xs bs = slice_index xs 0 ∷ names_over r (drop 1 xs) bs
names_over (child i ks r) xs [] = xs
names_over (child i ks r) xs (b ∷ bs) = values b.1 ++ names_over r (drop (length ks) xs) bs
names_over (bind u r) xs bs =
    slice_index xs 0 ∷ names_over u (take (length (scopes u)) (drop 1 xs)) (take (length (children u)) bs)
    ++ names_over r (drop (length (scopes u)) (drop 1 xs)) (drop (length (children u)) bs)

-- the node with these ids for its first children
abbrev pub node_over : Form → List Applied → Form
node_over f bs = record f { tree = tree_over f.tree bs; names = names_over f.tree f.names bs }

-- the node with each child filled
abbrev pub filled_node : Kept → ℕ → Form → Form
filled_node k c f = node_over f (filled_ids k c (child_ids f))

-- how many names its children lack
abbrev pub missing_of : Kept → Form → ℕ
missing_of k f = missing_in k (child_ids f)

-- so many fresh slots were not to be had
abbrev pub RunsOutForId : Kept → Applied → Table → Table → Type 0
RunsOutForId k a t u = RunsOut (missing k a) t u

abbrev pub RunsOutForNode : Kept → Form → Table → Table → Type 0
RunsOutForNode k f t u = RunsOut (missing_of k f) t u

-- where the one table knows these names, the other knows those
abbrev pub KeepsKnown : Table → Table → List ℕ → List ℕ → Type 0
KeepsKnown t u xs ys = AllKnown t xs → AllKnown u ys

-- where the table knows the names of a, b is a with its missing names, and none of these is a name that the table knows
abbrev pub FillsId : Kept → Table → Applied → Applied → Type 0
FillsId k t a b = AllKnown t (values a.1) → (given : List ℕ) → AllKnown t given → IsFilling (nodes_of k) given a b

-- where the table knows the names of f, g is f with each child filled, by none of the names that the table knows
abbrev pub FillsChildren : Kept → Table → Form → Form → Type 0
FillsChildren k t f g =
    AllKnown t f.names → (given : List ℕ) → AllKnown t given → FillsNode (nodes_of k) given (nameless_node f) (nameless_node g)

-- the children have names for just the canonical slots of their classes
abbrev pub HasFullChildren : Kept → Form → Type 0
HasFullChildren k f = All (IsFull (nodes_of k)) (child_ids f)

-- where the table knows the names of f, g has full children
abbrev pub MakesFull : Kept → Table → Form → Form → Type 0
MakesFull k t f g = AllKnown t f.names → HasFullChildren k g

-- g has the normal form of f
abbrev pub HasOneNormalForm : Kept → Form → Form → Type 0
HasOneNormalForm k f g = normal (entries_of k) (nameless_node g) ≡ normal (entries_of k) (nameless_node f)
