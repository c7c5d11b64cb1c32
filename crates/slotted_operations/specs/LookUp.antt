-- What nodes and terms are looked up as: by the filed nodes, over what children find. So a node has one id with each node whose children are
-- equal to its own in turn, also while symmetries are open.
--     found_node g d      the node with what each child finds in its place
--     id_of_found g d     what the class of the filed node of this shape finds, with the names of d put in
--     look_up g f         the id of a node over ids of the graph
--     look_up_term g t    the id of a term, child by child
--     RunsOutForUnknown   slots ran out for a node that was not looked up
--     MakesClassFor       there is one class more where the node was not looked up
--     AreLookedUp g       the node of each class is looked up
--     HasSameClasses g h  the graphs have the same table, classes, proofs and filed nodes
--     IsOneGraph g h      the graphs are one, but for whether they failed
--     KeepsLookUps g h    ids find what they found, and what was looked up is looked up as before
use Rattle.std.specs.Prelude.{◌≡◌, Option, None, Some, option_map}
use Rattle.slotted_theory.specs.Nameless.{DArgs, DTerm, stop, place, sub, scope, nameless}
use Rattle.slotted_theory.specs.Shape.{shape}
use Rattle.slotted_theory.specs.Term.{Term}
use Rattle.slotted_theory.proofs.Values.{node, child_before}
use Rattle.slotted_nodes.specs.Form.{Form}
use Rattle.slotted_languages.specs.NodeTerm.{nameless_node}
use Rattle.slotted_languages.specs.Shape.{Fits}
use Rattle.slotted_model.specs.Applied.{Applied, as_term, applied_of}
use Rattle.slotted_model.specs.Classes.{IsFull}
use Rattle.slotted_model.specs.LookUp as model
use Rattle.slotted_model.specs.ProofList.{node_of}
use Rattle.slotted_model.specs.State.{Row, row_of, source_with_names}
use Rattle.slotted_operations.specs.Adding.{MakesFilledClass, RunsOutForFilled}
use Rattle.slotted_operations.specs.ValidIds.{IsValidId, IsValidNode}
use Rattle.slotted_operations.specs.Graph.{Graph}
use Rattle.slotted_operations.specs.Image.{AreTogether, Image, found_id}

-- the arguments with what each child finds in its place
abbrev pub found_args : Image → DArgs → DArgs
found_args g stop = stop
found_args g (place x rest) = place x (found_args g rest)
found_args g (sub op payloads args rest) = child_before (as_term (found_id g (applied_of payloads args))) (found_args g rest)
found_args g (scope inner rest) = scope (found_args g inner) (found_args g rest)

abbrev pub found_node : Image → DTerm → DTerm
found_node g d = node d.op d.payloads (found_args g d.args)

abbrev pub id_of_found : Graph → DTerm → Option Applied
id_of_found g d = option_map (λ (r : Row). found_id g.image (source_with_names d r)) (row_of (shape d) g.filed)

-- the id of a node, without the names of its binders
abbrev pub look_up_nameless : Graph → DTerm → Option Applied
look_up_nameless g d = id_of_found g (found_node g.image d)

abbrev pub look_up : Graph → Form → Option Applied
look_up g f = look_up_nameless g (nameless_node f)

abbrev pub look_up_term : Graph → Term → Option Applied
look_up_term g t = model.look_up (look_up_nameless g) (nameless t)

pub record KeepsLookUps (g h : Graph) : Type 0 where
  pub finds : (a : Applied) → IsValidId g a → found_id h.image a ≡ found_id g.image a
  pub nodes : (f : Form) → Fits f → IsValidNode g f → (a : Applied) → look_up g f ≡ Some a → look_up h f ≡ Some a
  pub terms : (t : Term) (a : Applied) → look_up_term g t ≡ Some a → look_up_term h t ≡ Some a

-- the node of an id's class with the id's names is looked up, as an id of the class that its own is found in, over the same names
pub record IsLookedUp (g : Graph) (a : Applied) : Type 0 where
  pub answer : Applied
  pub looked_up : look_up_nameless g (node_of g.image.canonical a) ≡ Some answer
  pub together : AreTogether g.image a answer

abbrev pub AreLookedUp : Graph → Type 0
AreLookedUp g = (a : Applied) → IsFull g.image.canonical a → IsLookedUp g a

pub record HasSameClasses (g h : Graph) : Type 0 where
  pub table : h.table ≡ g.table
  pub image : h.image ≡ g.image
  pub filed : h.filed ≡ g.filed

-- and so has what the analysis keeps
pub record IsOneGraph (g h : Graph) : Type 0 where
  pub table : h.table ≡ g.table
  pub image : h.image ≡ g.image
  pub filed : h.filed ≡ g.filed
  pub part : h.part ≡ g.part

abbrev pub RunsOutForUnknown : Graph → Graph → Form → Type 0
RunsOutForUnknown g h f = (look_up g f ≡ None) × RunsOutForFilled g.image f g.table h.table

-- where the node was not looked up, the id is that of a new class, for the node with its children filled
abbrev pub MakesClassFor : Graph → Graph → Form → Applied → Type 0
MakesClassFor g h f a = look_up g f ≡ None → MakesFilledClass g.table h.table g.image.canonical h.image.canonical f a
