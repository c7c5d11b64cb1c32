-- How large a node is.
--     node_size d      how many names, binders and children stand in a node
--     IsWideNode f     so many that two of its children may have too many names to be numbered
use Rattle.std.specs.Prelude.{ℕ, ◌+◌, ◌^◌, ◌≤◌}
use Rattle.slotted_theory.specs.Nameless.{DArgs, DTerm, stop, place, sub, scope}
use Rattle.slotted_nodes.specs.Form.{Form}
use Rattle.slotted_languages.specs.NodeTerm.{nameless_node}

abbrev pub args_size : DArgs → ℕ
args_size stop = 0
args_size (place x rest) = 1 + args_size rest
args_size (sub op payloads args rest) = 1 + args_size args + args_size rest
args_size (scope inner rest) = 1 + args_size inner + args_size rest

abbrev pub node_size : DTerm → ℕ
node_size d = args_size d.args

-- the node has so many names, binders and children that two of its children may have too many names
abbrev pub IsWideNode : Form → Type 0
IsWideNode f = 2 ^ 29 ≤ node_size (nameless_node f)
