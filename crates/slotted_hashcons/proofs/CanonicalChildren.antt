-- Canonical nodes are over ids that find.
use Rattle.std.proofs.Common.{◌≡◌, ◌<◌, ℕ, length, sym, subst, arith}
use Rattle.slotted_theory.specs.Nameless.{DTerm}
use Rattle.slotted_model.specs.Applied.{EachChild}
use Rattle.slotted_model.specs.Classes.{Canonical, IsFull, canonical_node}
use Rattle.slotted_model.specs.Find.{Linked}
use Rattle.slotted_model.specs.Rest.{Sane}
use Rattle.slotted_model.specs.State.{State}
use Rattle.slotted_model.proofs.Represented.Children.{EachChild-map}
use Rattle.slotted_model.proofs.Finds.NormalIds.{full-is_valid}
use Rattle.slotted_classes.specs.Finding.{IsFindable}
use Rattle.slotted_classes.specs.Kept.{Kept, node_at, nodes_of, entries_of}
use Rattle.slotted_classes.proofs.ClassNodes.{node-is}
use Rattle.slotted_classes.proofs.KeptLists.{length-nodes_of}
use Rattle.slotted_hashcons.specs.NormalNodes.{HasFindableChildren}

-- the children of the canonical node of a class find
pub canonical-findable : (k : Kept) → Canonical (nodes_of k) → Linked (nodes_of k) (entries_of k) → (i : ℕ) → i < length k.classes → HasFindableChildren k (node_at k i)
canonical-findable k canonical linked i h =
    subst (λ (d : DTerm). EachChild (IsFindable k) d.args) (sym (node-is k i h))
    (EachChild-map (λ a. (a.0 < i) × IsFull (nodes_of k) a) (IsFindable k) (λ a f. full-is_valid (nodes_of k) (entries_of k) linked a f.1) (canonical_node (nodes_of k) i).args
    (canonical.children i (omega (arith, h, length-nodes_of k))))

-- so it is in a graph that is sane, whatever waits there
pub sane-findable : (k : Kept) (g : State) → Sane g → g.nodes ≡ nodes_of k → g.found ≡ entries_of k → (i : ℕ) → i < length k.classes → HasFindableChildren k (node_at k i)
sane-findable k g sane n f i h =
    canonical-findable k (subst Canonical n sane.sound.canonical) (subst (Linked (nodes_of k)) f (subst (λ ns. Linked ns g.found) n sane.sound.linked)) i h
