-- Rows that file canonical nodes, in what has grown.
use Rattle.std.proofs.Common.{◌≡◌, ℕ, suc, List, [], ◌∷◌, length, sym, ◌∙◌, ap, refl, arith}
use Rattle.std.specs.Prelude.{slice_index_or}
use Rattle.slotted_nodes.specs.Form.{Form}
use Rattle.slotted_languages.specs.Shape.{shape}
use Rattle.slotted_classes.specs.Kept.{Kept, ClassEntry, no_form, no_entry, rows_from}
use Rattle.slotted_classes.proofs.KeptLists.{length-nodes_of}
use Rattle.slotted_rebuilding.specs.Grows.{Grows}

abbrev node_in : List ClassEntry → ℕ → Form
node_in cs i = (slice_index_or cs i (no_form, no_entry)).0

-- rows are those of the same nodes
rows-same : (i : ℕ) (cs ds : List ClassEntry) → length cs ≡ length ds → ((j : ℕ) → node_in cs j ≡ node_in ds j) → rows_from i cs ≡ rows_from i ds
rows-same i [] [] n same = refl
rows-same i [] (d ∷ ds) n same = absurd (omega (arith, n))
rows-same i (c ∷ cs) [] n same = absurd (omega (arith, n))
rows-same i (c ∷ cs) (d ∷ ds) n same =
    let e : c.0 ≡ d.0 = same 0 in
    let r : rows_from (suc i) cs ≡ rows_from (suc i) ds = rows-same (suc i) cs ds (omega (arith, n)) (λ j. same (suc j)) in
    λ t. ((shape (e t)).0, (i, (shape (e t)).1)) ∷ r t

-- there are as many classes
pub grown-count : (k l : Kept) → Grows k l → length l.classes ≡ length k.classes
grown-count k l grows = sym (length-nodes_of l) ∙ (ap length grows.nodes ∙ length-nodes_of k)

-- and their rows are the same
pub grown-rows : (k l : Kept) → Grows k l → k.rows ≡ rows_from 0 k.classes → l.rows ≡ rows_from 0 l.classes
grown-rows k l grows rows = grows.rows ∙ (rows ∙ sym (rows-same 0 l.classes k.classes (grown-count k l grows) grows.forms))
