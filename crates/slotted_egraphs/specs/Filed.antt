-- What a caller of the graph asks of a node.
--     IsFiledAs g f b         the node is looked up as an id that finds what b finds
--     SaysNodeEqual g f b y   a yes says that b is equal to the node by what was asserted, whatever names are filled in
use Rattle.std.specs.Prelude.{Bool, IsTrue, IsSomeAnd}
use Rattle.slotted_nodes.specs.Form.{Form}
use Rattle.slotted_model.specs.Applied.{Applied}
use Rattle.slotted_explain.specs.Adding.{IsEqualToNode}
use Rattle.slotted_explain.specs.Graph.{Graph}
use Rattle.slotted_explain.specs.Image.{FoundAlike}
use Rattle.slotted_explain.specs.LookUp.{look_up}

abbrev pub IsFiledAs : Graph → Form → Applied → Type 0
IsFiledAs g f b = IsSomeAnd (look_up g f) (λ a. FoundAlike g.image a b)

abbrev pub SaysNodeEqual : Graph → Form → Applied → Bool → Type 0
SaysNodeEqual g f b y = IsTrue y → IsEqualToNode g.image b f
