-- Adding by look-up, over ids that may lack names.
--     names_lacking nodes a  how many names the id lacks
--     children_lack g f      how many the children of a node have no name for
--     slots_needed g f       how many fresh slots adding the node can take
--     RunsOutForFilled       why slots can run out where it is added
--     term_nodes t           how many nodes stand in a term
--     IsOfTerm t f           the node has no more places than the term, and is no larger
--     MakesFilledClass       there is one class more, for the node with its children filled
--     AddsSyn                the class of a node is looked up by canonical nodes, or made
--     IsEqualToNode g a f    by what was asserted the id is equal to the node, whatever names are filled in
use Rattle.std.specs.Prelude.{◌≡◌, ◌⊎◌, ℕ, ◌+◌, ◌*◌, ◌^◌, ◌≤◌, List, [], ◌∷◌, length, All, IsSome, None, Some}
use Rattle.slotted_slots.specs.Table.{Table, slot_limit, AllKnown}
use Rattle.slotted_theory.specs.Derives.{Equal}
use Rattle.slotted_theory.specs.Nameless.{DTerm}
use Rattle.slotted_theory.specs.Term.{Args, Term, done, name, child, bind, term_size}
use Rattle.slotted_nodes.specs.Form.{Form}
use Rattle.slotted_languages.specs.NodeTerm.{nameless_node}
use Rattle.slotted_model.specs.Applied.{Applied}
use Rattle.slotted_model.specs.Classes.{canonical_slots, IsFull, term_of, layer_of}
use Rattle.slotted_model.specs.Filling.{FillsNode}
use Rattle.slotted_model.specs.Ids.{id_of_node}
use Rattle.slotted_languages.specs.Sizes.{node_size}
use Rattle.slotted_lookup.specs.Filling.{lacked}
use Rattle.slotted_operations.specs.Causes.{HasLargeClassIn}
use Rattle.slotted_operations.specs.ValidIds.{Fills}
use Rattle.slotted_operations.specs.Graph.{Graph, HasNewClass, MakesAtMost, RunsOut}
use Rattle.slotted_operations.specs.Image.{Image, IsIdOfNode, NewClassesAre, asserted_in}
use Rattle.slotted_operations.specs.Nodes.{child_ids}
use Rattle.slotted_operations.specs.Places.{term_places}

-- how many canonical slots of its class the id has no name for
abbrev pub names_lacking : List DTerm → Applied → ℕ
names_lacking nodes a = lacked a.1 (canonical_slots nodes a.0)

-- some ids together
abbrev pub lacking_in : Image → List Applied → ℕ
lacking_in g [] = 0
lacking_in g (a ∷ rest) = names_lacking g.canonical a + lacking_in g rest

abbrev pub children_lack : Image → Form → ℕ
children_lack g f = lacking_in g (child_ids f)

-- one for each name that a child lacks, and one for each name of the node that is filled so
abbrev pub slots_needed : Image → Form → ℕ
slots_needed g f = length f.names + 2 * children_lack g f

-- the node with its children filled would have a class that is too large to be rebuilt
abbrev pub HasLargeClassOrFilled : Image → Form → Type 0
HasLargeClassOrFilled g f = HasLargeClassIn g ⊎ (2 ^ 29 ≤ node_size (nameless_node f) + children_lack g f)

-- how many nodes stand in a term
abbrev pub args_nodes : Args → ℕ
args_nodes done = 0
args_nodes (name x rest) = args_nodes rest
args_nodes (child op payloads args rest) = 1 + args_nodes args + args_nodes rest
args_nodes (bind x inner rest) = args_nodes inner + args_nodes rest

abbrev pub term_nodes : Term → ℕ
term_nodes t = 1 + args_nodes t.args

-- the node has no more places than the term, and is no larger
pub record IsOfTerm (t : Term) (f : Form) : Type 0 where
  pub places : length f.names ≤ term_places t
  pub size : node_size (nameless_node f) ≤ term_size t

-- no slots are left, the node with its children filled has too many places to be numbered, or a class is too large to be rebuilt
abbrev pub RunsOutForFilled : Image → Form → Table → Table → Type 0
RunsOutForFilled g f old new = RunsOut (slots_needed g f) old new ⊎ (slot_limit ≤ length f.names + children_lack g f) ⊎
    HasLargeClassOrFilled g f

-- e is the node with its children filled, by none of the names that the table knows
abbrev pub HasChildrenFilled : List DTerm → Table → Form → DTerm → Type 0
HasChildrenFilled nodes t f e = (given : List ℕ) → AllKnown t given → FillsNode nodes given (nameless_node f) e

-- there is one class more, that of a, for the node with its children filled, and its slots are new
pub record MakesFilledClass (old new : Table) (older newer : List DTerm) (f : Form) (a : Applied) : Type 0 where
  pub node : DTerm
  pub fills : HasChildrenFilled older old f node
  pub class : HasNewClass old new older newer node
  pub number : a.0 ≡ length older

-- the id is the class of the node with its children filled, which was there, so that nothing changes but for slots that children lack, or was
-- made and is the only one that was
pub record AddsSyn (g h : Graph) (f : Form) (a : Applied) : Type 0 where
  pub node : DTerm
  pub fills : HasChildrenFilled g.image.canonical g.table f node
  pub same : All (IsFull g.image.canonical) (child_ids f) → node ≡ nameless_node f
  pub found : id_of_node h.image.canonical node ≡ Some a
  pub term : term_of h.image.canonical a ≡ layer_of h.image.canonical node
  pub kept : IsSome (id_of_node g.image.canonical node) → (h.image ≡ g.image) × (h.filed ≡ g.filed) ×
      MakesAtMost (children_lack g.image f) g.table h.table × (h.part ≡ g.part)
  pub made : id_of_node g.image.canonical node ≡ None → HasNewClass g.table h.table g.image.canonical h.image.canonical node
  pub filed : NewClassesAre g.image.canonical h.image.canonical (IsIdOfNode h.image.canonical node)

abbrev pub IsEqualToNode : Image → Applied → Form → Type 0
IsEqualToNode g a f =
    (left : Applied) (e : DTerm) → Fills g a left → FillsNode g.canonical [] (nameless_node f) e →
    Equal (asserted_in g) (term_of g.canonical left) (layer_of g.canonical e)
