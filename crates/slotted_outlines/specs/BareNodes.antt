-- What is left of a node without its names and its children, and values for its children.
--     bare d              the shape of the node without its children
--     bare_node f         the same of a node of a language
--     HasValuesFor f xs   there is a value for each child of the node
use Rattle.std.specs.Prelude.{◌≡◌, List, length}
use Rattle.slotted_theory.specs.Nameless.{DTerm}
use Rattle.slotted_theory.specs.Shape.{shape}
use Rattle.slotted_nodes.specs.Form.{Form, children}
use Rattle.slotted_languages.specs.NodeTerm.{nameless_node}
use Rattle.slotted_model.specs.Cost.{without_children}

-- what is left of a node without its names and its children: alike nodes are those of which the same is left
abbrev pub bare : DTerm → DTerm
bare d = shape (without_children d)

abbrev pub bare_node : Form → DTerm
bare_node f = bare (nameless_node f)

-- as many values as children
abbrev pub HasValuesFor : {C : Type 0} → Form → List C → Type 0
HasValuesFor f xs = length xs ≡ length (children f.tree)
