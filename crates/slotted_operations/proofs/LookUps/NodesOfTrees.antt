-- Where a tree has an id, and the children of its node are ids, the node has one.
use Rattle.std.proofs.Common.{◌≡◌, List, Option, Some, None, sym, ◌∙◌, ap, refl}
use Rattle.std.specs.Prelude.{IsSome, is_some}
use Rattle.std.proofs.lemmas.Bool.{false≢true}
use Rattle.slotted_theory.specs.Nameless.{DTerm}
use Rattle.slotted_model.specs.Applied.{Applied, EachChild}
use Rattle.slotted_model.specs.Classes.{Canonical, IsFull, layer_of}
use Rattle.slotted_model.specs.Ids.{id_of_node, id_of}
use Rattle.slotted_model.proofs.Represented.Ids.{id_of-iff, id_of_node-iff}

-- where the children of a node are ids, and it stands for a tree that has an id, it has that id
pub node_has_id : (nodes : List DTerm) → Canonical nodes → (d : DTerm) → EachChild (IsFull nodes) d.args → (t : DTerm) → layer_of nodes d ≡ t → IsSome (id_of nodes t) → IsSome (id_of_node nodes d)
node_has_id nodes can d full t e s = go (id_of nodes t) refl
  where
    go : (o : Option Applied) → id_of nodes t ≡ o → IsSome (id_of_node nodes d)
    go None p = absurd (false≢true (sym (ap is_some p) ∙ s))
    go (Some a) p =
        let r = (id_of-iff nodes can t a).0 p in
        ap is_some ((id_of_node-iff nodes can d full a).1 (r.0, r.1 ∙ sym e))
