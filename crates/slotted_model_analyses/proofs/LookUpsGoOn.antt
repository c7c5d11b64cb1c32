-- A node over ids that is looked up stays so, whatever follows: its normal form goes on, and at rest the node of each full id is looked up.
use Rattle.std.proofs.Common.{◌≡◌, Some, sym, ◌∙◌, ap, subst}
use Rattle.slotted_theory.specs.Nameless.{DTerm}
use Rattle.slotted_model.specs.Applied.{Applied, EachChild}
use Rattle.slotted_model.specs.Classes.{IsFull}
use Rattle.slotted_model.specs.Find.{find}
use Rattle.slotted_model.specs.Normal.{normal}
use Rattle.slotted_model.specs.ProofList.{node_of}
use Rattle.slotted_model.specs.State.{State, look_up_normal, look_up_node}
use Rattle.slotted_model.specs.Rest.{IsValidIn, found_alike, joined, AtRest, IsAnswer, LookedUp, FoundTogether}
use Rattle.slotted_model.specs.Changes.{GoesOn}
use Rattle.slotted_model.proofs.Rebuilding.Answers.{answer-found}
use Rattle.slotted_model.proofs.Represented.Children.{EachChild-map}
use Rattle.slotted_model.proofs.Represented.Full.{full-children}
use Rattle.slotted_model.proofs.Rebuilding.GoingOn.{still-full, still-node, still-normal}
use Rattle.slotted_model.proofs.Finds.NormalIds.{found-valid, full-is_valid}
use Rattle.slotted_model.proofs.Rebuilding.Rows.{rest-nodes}
use Rattle.slotted_model.proofs.Rebuilding.UpTo.{upto-together}

-- the id that is looked up then is found together with that which was looked up
pub look_up-goes_on : (g : State) → AtRest g → (h : State) → AtRest h → GoesOn g h → (d : DTerm) → EachChild (IsValidIn g) d.args → (x : Applied) → look_up_node g d ≡ Some x →
    (y : Applied) × (look_up_node h d ≡ Some y) × IsValidIn h y × FoundTogether h x y
look_up-goes_on g rest_g h rest_h on d valid x e =
    let k : IsAnswer g d x = answer-found g rest_g d x e in
    let a : Applied = k.id in
    let vg : IsValidIn g a = full-is_valid g.nodes g.found rest_g.sane.sound.linked a k.full in
    let vx : IsValidIn g x = subst (IsValidIn g) k.found (found-valid g.nodes g.found rest_g.sane.sound.linked a vg) in
    let full : IsFull h.nodes a = still-full g h rest_g.sane.sound on a k.full in
    let children : EachChild (IsValidIn g) (node_of g.nodes a).args =
    EachChild-map _ (IsValidIn g) (λ b c. full-is_valid g.nodes g.found rest_g.sane.sound.linked b c.1) (node_of g.nodes a).args (full-children g.nodes rest_g.sane.sound.canonical a k.full) in
    let same : normal h.found d ≡ normal h.found (node_of h.nodes a) =
    still-normal g h rest_g.sane.sound on d valid
    ∙ (ap (normal h.found) (sym k.same) ∙ (sym (still-normal g h rest_g.sane.sound on (node_of g.nodes a) children) ∙ ap (normal h.found) (sym (still-node g h rest_g.sane.sound on a k.full)))) in
    let l : LookedUp h a = rest-nodes h rest_h a full in
    let there : look_up_node h d ≡ Some l.answer = ap (look_up_normal h) same ∙ l.looked_up in
    let i : IsAnswer h d l.answer = answer-found h rest_h d l.answer there in
    let vy : IsValidIn h l.answer = subst (IsValidIn h) i.found (found-valid h.nodes h.found rest_h.sane.sound.linked i.id (full-is_valid h.nodes h.found rest_h.sane.sound.linked i.id i.full)) in
    let found : find h.found x ≡ find h.found a = sym ((on.finds a vg).1 ∙ ap (find h.found) k.found) in
    (l.answer, there, vy, upto-together h rest_h.aligned (joined (found_alike (on.finds x vx).0 (on.finds a vg).0 found) l.together.equal))
