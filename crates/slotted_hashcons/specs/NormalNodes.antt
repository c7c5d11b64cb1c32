-- Nodes over ids that find, and their normal forms.
--     HasFindableChildren k f   each child of the node is an id that finds
--     HasNoOtherNames f g       each name in g is one in f
use Rattle.std.specs.Prelude.{ℕ, Contains}
use Rattle.slotted_nodes.specs.Form.{Form}
use Rattle.slotted_languages.specs.NodeTerm.{nameless_node}
use Rattle.slotted_model.specs.Applied.{EachChild}
use Rattle.slotted_classes.specs.Finding.{IsFindable}
use Rattle.slotted_classes.specs.Kept.{Kept}

-- each child of the node is an id that finds
abbrev pub HasFindableChildren : Kept → Form → Type 0
HasFindableChildren k f = EachChild (IsFindable k) (nameless_node f).args

-- each name in g is one in f
abbrev pub HasNoOtherNames : Form → Form → Type 0
HasNoOtherNames f g = (x : ℕ) → Contains g.names x → Contains f.names x
