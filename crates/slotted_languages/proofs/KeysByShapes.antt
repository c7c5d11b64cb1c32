-- Two nodes that are the shapes of themselves are one node where they have one shape in the model's words.
use Rattle.std.proofs.Common.{◌≡◌, sym, ◌∙◌}
use Rattle.slotted_theory.specs.Shape as theory
use Rattle.slotted_theory.proofs.Shapes.{shape_iff}
use Rattle.slotted_nodes.specs.Form.{Form}
use Rattle.slotted_languages.specs.NodeTerm.{nameless_node}
use Rattle.slotted_languages.specs.Shape.{Fits, shape}
use Rattle.slotted_languages.proofs.Shapes.{shapes_iff}

-- two nodes of one shape in the model's words have one shape
pub one-shape : (f g : Form) → Fits f → Fits g → theory.shape (nameless_node f) ≡ theory.shape (nameless_node g) → (shape f).0 ≡ (shape g).0
one-shape f g hf hg e = (shapes_iff f g hf hg).1 ((shape_iff (nameless_node f) (nameless_node g)).0 e)

-- and back
pub one-shape_back : (f g : Form) → Fits f → Fits g → (shape f).0 ≡ (shape g).0 → theory.shape (nameless_node f) ≡ theory.shape (nameless_node g)
one-shape_back f g hf hg e = (shape_iff (nameless_node f) (nameless_node g)).1 ((shapes_iff f g hf hg).0 e)

pub one-key : (f g : Form) → Fits f → Fits g → (shape f).0 ≡ f → (shape g).0 ≡ g → theory.shape (nameless_node f) ≡ theory.shape (nameless_node g) → f ≡ g
one-key f g hf hg sf sg e = sym sf ∙ (one-shape f g hf hg e ∙ sg)
