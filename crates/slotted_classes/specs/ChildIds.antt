-- The children of a node as applied ids.
use Rattle.std.specs.Prelude.{ℕ, List, [], ◌∷◌, ◌++◌, length, take, drop}
use Rattle.std.specs.List.{zip}
use Rattle.slotted_nodes.specs.Form.{Form, Tree, leaf, own, child, bind, scopes}
use Rattle.slotted_model.specs.Applied.{Applied}

-- the children of a tree with these names at its places, from the left
abbrev pub ids_in : Tree → List ℕ → List Applied
ids_in leaf xs = []
ids_in (own r) xs = ids_in r (drop 1 xs)
ids_in (child i ks r) xs = (i, zip ks (take (length ks) xs)) ∷ ids_in r (drop (length ks) xs)
ids_in (bind u r) xs = ids_in u (take (length (scopes u)) (drop 1 xs)) ++ ids_in r (drop (length (scopes u)) (drop 1 xs))

-- the children of a node
abbrev pub child_ids : Form → List Applied
child_ids f = ids_in f.tree f.names
