-- The classes of a node's children.
use Rattle.std.proofs.Common.{◌≡◌, ◌<◌, ◌∙◌, ℕ, List, [], length, get_or, ap, sym, subst}
use Rattle.std.specs.Prelude.{Contains, slice_index_or}
use Rattle.std.proofs.lemmas.List.{get_or-map}
use Rattle.std.proofs.lemmas.List.Elements.{Contains-get_or}
use Rattle.slotted_nodes.specs.Form.{Form, children}
use Rattle.slotted_languages.specs.Fresh.{IsRenamedFresh}
use Rattle.slotted_languages.specs.NodeTerm.{nameless_node}
use Rattle.slotted_slots.specs.Table.{Table}
use Rattle.slotted_model.specs.Applied.{Applied}
use Rattle.slotted_model.specs.State.{child_classes}
use Rattle.slotted_model.proofs.Complete.Marks.{child_classes-moved}
use Rattle.slotted_classes.specs.ChildIds.{child_ids}
use Rattle.slotted_classes.proofs.ChildIds.{ids-at}
use Rattle.slotted_hashcons.specs.FiledRows.{key_children}
use Rattle.slotted_hashcons.proofs.KeyChildren.{key_children-read}
use Rattle.slotted_data.proofs.NewData.{children-count}

-- each is the class of the id that stands there
pub class-of_child : (f : Form) (k : ℕ) (d : Applied) → k < length (children f.tree) → get_or (key_children f) k 0 ≡ (slice_index_or (child_ids f) k d).0
class-of_child f k d lt =
    ap (λ cs. get_or cs k 0) (key_children-read f)
    ∙ (get_or-map (λ (p : ℕ × List ℕ). p.0) (children f.tree) k (0, []) 0 lt
    ∙ sym (ap (λ (a : Applied). a.0) (ids-at f.tree f.names k d lt)))

pub child-contained : (f : Form) (k : ℕ) (d : Applied) → k < length (children f.tree) → Contains (key_children f) (slice_index_or (child_ids f) k d).0
child-contained f k d lt =
    subst (Contains (key_children f)) (class-of_child f k d lt)
    (Contains-get_or (key_children f) k 0 (subst (λ n. k < n) (sym (children-count f)) lt))

-- a node with other names has children of the same classes
pub children-renamed : (t : Table) (m : List (ℕ × ℕ)) (f g : Form) → IsRenamedFresh t m f g → key_children g ≡ key_children f
children-renamed t m f g is = ap (λ d. child_classes d.args) is.renamed ∙ child_classes-moved is.by (nameless_node f).args
