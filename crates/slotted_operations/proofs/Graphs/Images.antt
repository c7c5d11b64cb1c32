-- Images of graphs: what is added and what goes on, step after step.
use Rattle.std.proofs.Common.{◌≡◌, ◌<◌, ◌+◌, ℕ, zero, suc, List, [], ◌∷◌, ◌++◌, length, ◌∙◌, ap, append_assoc, arith}
use Rattle.std.specs.Prelude.{slice_index_or}
use Rattle.slotted_model.specs.Applied.{Applied}
use Rattle.slotted_model.specs.Classes.{IsFull}
use Rattle.slotted_model.specs.Correspondence.{composite}
use Rattle.slotted_model.specs.Find.{Entry, find_class, find_map, find}
use Rattle.slotted_model.specs.Growth.{Extends}
use Rattle.slotted_model.specs.ProofList.{ProofEntry}
use Rattle.slotted_proofs.specs.Entries.{Proven}
use Rattle.slotted_rebuilding.proofs.RebuildCounts.{counts-then}
use Rattle.slotted_operations.specs.Causes.{class_found}
use Rattle.slotted_operations.specs.Image.{Image, AddsClasses, found_id}
use Rattle.slotted_classes.specs.Kept.{Kept, SymmetryEntry, entries_of}
use Rattle.slotted_operations.specs.Good.{image_of, finds_from}
use Rattle.slotted_classes.proofs.KeptLists.{length-entries_of}

-- more is added
pub adds-then : (g h i : Image) → Extends g.canonical h.canonical → AddsClasses g h → AddsClasses h i →
    ((a : Applied) → IsFull g.canonical a → found_id i a ≡ found_id i (found_id g a)) → AddsClasses g i
adds-then g h i x p q finds = record {
  more = p.more ++ q.more;
  entries = q.entries ∙ (ap (λ (l : List ProofEntry). l ++ q.more) p.entries ∙ append_assoc g.entries p.more q.more);
  more_stored = p.more_stored ++ q.more_stored;
  stored = q.stored ∙ (ap (λ (l : List Proven). l ++ q.more_stored) p.stored ∙ append_assoc g.stored p.more_stored q.more_stored);
  asserted = q.asserted ∙ p.asserted;
  listed = p.listed ++ q.listed;
  symmetries = q.symmetries ∙ (ap (λ (l : List SymmetryEntry). l ++ q.listed) p.symmetries ∙ append_assoc g.symmetries p.listed q.listed);
  finds = finds;
  alike = λ a b fa fb e. q.alike a b (x.full a fa) (x.full b fb) (p.alike a b fa fb e);
  counts = counts-then g.counts h.counts i.counts p.counts q.counts;
}

-- what a class finds
finds-at : (found : List Entry) (i : ℕ) (es : List Entry) (j : ℕ) → j < length es → slice_index_or (finds_from found i es) j (0, []) ≡ (find_class found (i + j), find_map found (i + j))
finds-at found i [] j l = absurd (omega arith)
finds-at found i (e ∷ es) zero l = let z : i ≡ i + 0 = omega arith in ap (λ n. (find_class found n, find_map found n)) z
finds-at found i (e ∷ es) (suc j) l =
    let z : suc i + j ≡ i + suc j = omega arith in
    finds-at found (suc i) es j (omega arith) ∙ ap (λ n. (find_class found n, find_map found n)) z

pub found-at : (k : Kept) (i : ℕ) → i < length k.classes → slice_index_or (image_of k).found i (0, []) ≡ (find_class (entries_of k) i, find_map (entries_of k) i)
found-at k i l =
    let h : i < length (entries_of k) = let n : length (entries_of k) ≡ length k.classes = length-entries_of k in omega arith in
    let z : 0 + i ≡ i = omega arith in
    finds-at (entries_of k) 0 (entries_of k) i h ∙ ap (λ n. (find_class (entries_of k) n, find_map (entries_of k) n)) z

-- an id finds what the entries say
pub found_id-is : (k : Kept) (a : Applied) → a.0 < length k.classes → found_id (image_of k) a ≡ find (entries_of k) a
found_id-is k a l = let e = found-at k a.0 l in λ i. ((e i).0, composite (e i).1 a.1)

-- and so does a class
pub class_found-is : (k : Kept) (i : ℕ) → i < length k.classes → class_found (image_of k) i ≡ find_class (entries_of k) i
class_found-is k i l = ap (λ (a : Applied). a.0) (found-at k i l)
