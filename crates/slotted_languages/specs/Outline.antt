-- The outline of a node: the node with each child replaced by one that has a single place. Its places are the node's own
-- names, children and binders in a row, so what stands where can be read off them.
use Rattle.std.specs.Prelude.{◌≡◌, ℕ, List, [], ◌∷◌, ◌++◌, length, take, drop, replicate, slice_index}
use Rattle.slotted_nodes.specs.Form.{Form, Tree, leaf, own, child, bind, scopes}

-- the tree with the id 0 under the one key 0 in the place of each child
abbrev pub outlined : Tree → Tree
outlined leaf = leaf
outlined (own r) = own (outlined r)
outlined (child i ks r) = child 0 (0 ∷ []) (outlined r)
outlined (bind u r) = bind (outlined u) (outlined r)

-- the names of a tree at the places of its outline, with the name v at each child
abbrev pub outlined_names : ℕ → Tree → List ℕ → List ℕ
outlined_names v leaf xs = []
outlined_names v (own r) xs = slice_index xs 0 ∷ outlined_names v r (drop 1 xs)
outlined_names v (child i ks r) xs = v ∷ outlined_names v r (drop (length ks) xs)
outlined_names v (bind u r) xs =
    slice_index xs 0 ∷ outlined_names v u (take (length (scopes u)) (drop 1 xs)) ++ outlined_names v r (drop (length (scopes u)) (drop 1 xs))

-- the outline, with the name v at each child
abbrev pub outlined_form : ℕ → Form → Form
outlined_form v f = record f { tree = outlined f.tree; names = outlined_names v f.tree f.names }

-- the name that marks a child in a skeleton: $1
abbrev pub child_mark : ℕ
child_mark = 4

-- that mark at the places of children, and 0 at those of own names and binders
abbrev pub marks : Tree → List ℕ
marks leaf = []
marks (own r) = 0 ∷ marks r
marks (child i ks r) = child_mark ∷ marks r
marks (bind u r) = 0 ∷ marks u ++ marks r

-- the outline with its marks for names: what is left of a node without its names and children
abbrev pub skeleton_form : Form → Form
skeleton_form f = record f { tree = outlined f.tree; names = marks f.tree }

-- the form with the name 0 at all places
abbrev pub blank_form : Form → Form
blank_form f = record f { names = replicate (length f.names) 0 }

-- the id 0 with a name under the one key 0
abbrev pub IsOnlyChild : ℕ → ℕ → List (ℕ × ℕ) → Type 0
IsOnlyChild name id m = (id ≡ 0) × (m ≡ (0, name) ∷ [])
