-- The canonical node of a class, as what is kept has it and as the mathematics has it.
use Rattle.std.proofs.Common.{◌≡◌, ◌<◌, ℕ, length, ◌∙◌, sym, arith, []}
use Rattle.slotted_lists.proofs.Lists.{slice_index_or-map}
use Rattle.slotted_theory.specs.Nameless.{stop}
use Rattle.slotted_theory.proofs.Values.{node}
use Rattle.slotted_languages.specs.NodeTerm.{nameless_node}
use Rattle.slotted_model.specs.Classes.{canonical_node}
use Rattle.slotted_classes.specs.Kept.{Kept, ClassEntry, node_at, nodes_of, no_form, no_entry}
use Rattle.slotted_classes.proofs.KeptLists.{any_default, length-nodes_of}

-- the canonical node of a class, without bound names
pub node-is : (k : Kept) (i : ℕ) → i < length k.classes → nameless_node (node_at k i) ≡ canonical_node (nodes_of k) i
node-is k i h =
    sym (any_default (nodes_of k) i (node 0 [] stop) (nameless_node no_form) (omega (arith, h, length-nodes_of k))
    ∙ slice_index_or-map (λ (c : ClassEntry). nameless_node c.0) k.classes i (no_form, no_entry))
