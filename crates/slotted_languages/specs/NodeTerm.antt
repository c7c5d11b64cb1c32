-- A node with ids as a term: each child is an atom of its id and its keys, with its names as own names.
use Rattle.std.specs.Prelude.{ℕ, suc, List, [], ◌∷◌, take, drop, length, slice_index}
use Rattle.slotted_theory.specs.Term.{Args, Term, done, name, child, bind}
use Rattle.slotted_theory.specs.Nameless.{DTerm, nameless}
use Rattle.slotted_theory.specs.Shape.{free_names}
use Rattle.slotted_nodes.specs.Form.{Form, Tree, leaf, own, scopes}
use Rattle.slotted_nodes.specs.Form.{child as id, bind as binder}

-- own names, one after another
abbrev pub own_names : List ℕ → Args
own_names [] = done
own_names (x ∷ xs) = name x (own_names xs)

-- the arguments of a tree with names put at its places from the left; no operator of a term is 0
abbrev pub node_args : Tree → List ℕ → Args
node_args leaf xs = done
node_args (own r) xs = name (slice_index xs 0) (node_args r (drop 1 xs))
node_args (id i ks r) xs = child 0 ((i ∷ ks) ∷ []) (own_names (take (length ks) xs)) (node_args r (drop (length ks) xs))
node_args (binder u r) xs =
    bind (slice_index xs 0) (node_args u (take (length (scopes u)) (drop 1 xs)))
    (node_args r (drop (length (scopes u)) (drop 1 xs)))

abbrev pub node_term : Form → Term
node_term f = record { op = suc f.operator; payloads = f.payloads; args = node_args f.tree f.names }

-- the node without its bound names: two nodes are alpha-equal exactly if these are equal
abbrev pub nameless_node : Form → DTerm
nameless_node f = nameless (node_term f)

-- the free names of a node from the left, each as often as it stands
abbrev pub free_names_of : Form → List ℕ
free_names_of f = free_names (nameless_node f).args
