-- A class with its canonical slots as names: they are read off the row of the class.
use Rattle.std.proofs.Common.{◌≡◌, ◌<◌, ℕ, zero, suc, List, [], ◌∷◌, length, refl, ap, ◌∙◌, arith}
use Rattle.std.specs.Prelude.{slice_index_or}
use Rattle.slotted_slots.specs.Maps.{values}
use Rattle.slotted_languages.specs.Shape.{shape}
use Rattle.slotted_model.specs.Ascending.{ascending, names}
use Rattle.slotted_model.specs.Classes.{canonical_slots}
use Rattle.slotted_model.specs.Correspondence.{identity}
use Rattle.slotted_classes.specs.Kept.{Kept, ClassEntry, RowEntry, names_at, node_at, nodes_of, no_form, no_entry, rows_from}
use Rattle.slotted_classes.specs.Names.{between}
use Rattle.slotted_classes.proofs.NamePairs.{ascending-values, between-itself}
use Rattle.slotted_classes.proofs.ClassNodes.{node-is}

from-names : (i : ℕ) (cs : List ClassEntry) (j : ℕ) → j < length cs → (slice_index_or (rows_from i cs) j (no_form, (0, []))).1.1 ≡ (shape (slice_index_or cs j (no_form, no_entry)).0).1
from-names i [] j l = absurd (omega arith)
from-names i (c ∷ cs) zero l = refl
from-names i (c ∷ cs) (suc j) l = from-names (suc i) cs j (omega arith)

pub length-from : (i : ℕ) (cs : List ClassEntry) → length (rows_from i cs) ≡ length cs
length-from i [] = refl
length-from i (c ∷ cs) = ap suc (length-from (suc i) cs)

-- there is a row for each class
pub has-row : (k : Kept) → k.rows ≡ rows_from 0 k.classes → (i : ℕ) → i < length k.classes → i < length k.rows
has-row k rows i l = let e : length k.rows ≡ length k.classes = ap length rows ∙ length-from 0 k.classes in omega arith

-- the slots that the row of a class files are the canonical ones
pub row-slots : (k : Kept) → k.rows ≡ rows_from 0 k.classes → (i : ℕ) → i < length k.classes → ascending (values (names_at k i)) ≡ canonical_slots (nodes_of k) i
row-slots k rows i l =
    ap (λ m. ascending (values m)) (ap (λ (rs : List RowEntry). (slice_index_or rs i (no_form, (0, []))).1.1) rows ∙ from-names 0 k.classes i l)
    ∙ (ascending-values (node_at k i) ∙ ap names (node-is k i l))

-- and each with itself is the map between them
pub own-map : (k : Kept) → k.rows ≡ rows_from 0 k.classes → (i : ℕ) → i < length k.classes → (m : List (ℕ × ℕ)) → m ≡ names_at k i → between m m ≡ identity (canonical_slots (nodes_of k) i)
own-map k rows i l m e =
    ap (λ n. between n n) e ∙ (between-itself (names_at k i) ∙ ap identity (row-slots k rows i l))
