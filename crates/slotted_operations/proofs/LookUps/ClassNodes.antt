-- The node of each class is looked up: as what is found together with the class.
use Rattle.std.proofs.Common.{◌≡◌, ◌∙◌, ◌<◌, Some, subst, sym}
use Rattle.slotted_theory.specs.Nameless.{DTerm}
use Rattle.slotted_model.specs.Applied.{EachChild}
use Rattle.slotted_model.specs.Classes.{IsFull}
use Rattle.slotted_model.specs.ProofList.{node_of}
use Rattle.slotted_model.specs.Rest.{LookedUp}
use Rattle.slotted_model.proofs.Represented.Children.{EachChild-map}
use Rattle.slotted_model.proofs.Represented.Full.{full-children}
use Rattle.slotted_model.proofs.Rebuilding.Rows.{rest-nodes}
use Rattle.slotted_classes.specs.Finding.{IsFindable}
use Rattle.slotted_classes.specs.Kept.{Kept, nodes_of}
use Rattle.slotted_hashcons.specs.FiledRows.{Rows, rows_in}
use Rattle.slotted_hashcons.specs.WellFiled.{state_in}
use Rattle.slotted_operations.specs.Good.{Good, RestsWith, image_of}
use Rattle.slotted_operations.specs.Graph.{Graph}
use Rattle.slotted_operations.specs.Image.{AreTogether, Image}
use Rattle.slotted_operations.specs.LookUp.{AreLookedUp, look_up_nameless}
use Rattle.slotted_operations.proofs.Graphs.Finds.{full-findable}
use Rattle.slotted_operations.proofs.Graphs.Images.{found_id-is}
use Rattle.slotted_operations.proofs.LookUps.States.{looked_up-findable, looked_up-is}
use Rattle.slotted_operations.proofs.Graphs.AtRest.{at-rest}
use Rattle.slotted_operations.proofs.Unions.WholeUnions.{together-in}
use Rattle.slotted_operations.proofs.Ids.ValidIds.{findable-within}

pub are-looked_up : (k : Kept) (r : Rows) → Good k → RestsWith k r → (g : Graph) → image_of k ≡ g.image → rows_in r.filed ≡ g.filed → AreLookedUp g
are-looked_up k r good rests g image filed a full =
    let f : IsFull (nodes_of k) a = subst (λ (i : Image). IsFull i.canonical a) (sym image) full in
    let known : LookedUp (state_in k r) a = rest-nodes (state_in k r) (at-rest k r good rests) a f in
    let d : DTerm = node_of (nodes_of k) a in
    let children : EachChild (IsFindable k) d.args =
    EachChild-map (λ y. (y.0 < a.0) × IsFull (nodes_of k) y) (IsFindable k) (λ y h. full-findable k good y h.1) d.args (full-children (nodes_of k) good.stored.sane.sound.canonical a f) in
    let is : look_up_nameless g d ≡ Some known.answer = looked_up-is k r good rests g image filed d children ∙ known.looked_up in
    let own = found_id-is k a (findable-within k a (full-findable k good a f)) in
    let answered = found_id-is k known.answer (findable-within k known.answer (looked_up-findable k r good rests g image filed d known.answer children is)) in
    record {
      answer = known.answer;
      looked_up = subst (λ (i : Image). look_up_nameless g (node_of i.canonical a) ≡ Some known.answer) image is;
      together = subst (λ (i : Image). AreTogether i a known.answer) image (together-in k r good a known.answer own answered known.together);
    }
