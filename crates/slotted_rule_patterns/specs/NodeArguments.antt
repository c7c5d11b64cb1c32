-- The arguments of a node with names, as the matcher holds them beside those of a pattern.
--     args_of u xs        the arguments of the tree u with the names xs at its places
--     node_arguments f    those of the node f
--     HasBinder u xs y    the name y stands at a binder of the tree u
use Rattle.std.specs.Prelude.{◌≡◌, ℕ, ◌<◌, List, drop, take, length, slice_index, slice_index_or, None, IsSome}
use Rattle.std.specs.List.{zip}
use Rattle.slotted_nodes.specs.Form.{Form, Tree, leaf, own, child, bind, scopes}
use Rattle.slotted_model_rules.specs.Matcher.{NodeArgs, no_more, a_name, an_id, a_binder}

-- names are taken from the left; a child is its id with the names at its places
abbrev pub args_of : Tree → List ℕ → NodeArgs
args_of leaf xs = no_more
args_of (own r) xs = a_name (slice_index xs 0) (args_of r (drop 1 xs))
args_of (child i ks r) xs = an_id (i, zip ks (take (length ks) xs)) (args_of r (drop (length ks) xs))
args_of (bind u r) xs =
    a_binder (slice_index xs 0) (args_of u (take (length (scopes u)) (drop 1 xs)))
    (args_of r (drop (length (scopes u)) (drop 1 xs)))

abbrev pub node_arguments : Form → NodeArgs
node_arguments f = args_of f.tree f.names

pub record HasBinder (u : Tree) (xs : List ℕ) (y : ℕ) : Type 0 where
  pub place : ℕ
  pub within : place < length xs
  pub binder : IsSome (slice_index_or (scopes u) place None)
  pub named : slice_index xs place ≡ y
