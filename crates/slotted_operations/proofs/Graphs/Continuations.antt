-- What contracts see of a graph that goes on: finds go on from what was found, and lists grow at their ends.
use Rattle.std.proofs.Common.{◌≡◌, ◌<◌, ℕ, List, ◌++◌, length, map, sym, ◌∙◌, ap, arith}
use Rattle.std.proofs.lemmas.List.{map-append}
use Rattle.slotted_model.specs.Applied.{Applied}
use Rattle.slotted_model.specs.Changes.{GoesOn}
use Rattle.slotted_model.specs.Classes.{IsFull}
use Rattle.slotted_model.specs.Find.{find, find_class}
use Rattle.slotted_model.specs.ProofList.{asserted}
use Rattle.slotted_model.specs.Rest.{IsValidIn}
use Rattle.slotted_model.proofs.Finds.NormalIds.{full-is_valid, found-valid}
use Rattle.slotted_proofs.specs.Entries.{Proven, entry_of}
use Rattle.slotted_classes.specs.Kept.{Kept, SymmetryEntry, nodes_of, entries_of, proofs_of}
use Rattle.slotted_classes.proofs.KeptLists.{length-nodes_of}
use Rattle.slotted_hashcons.specs.FiledRows.{Rows}
use Rattle.slotted_hashcons.specs.WellFiled.{state_in}
use Rattle.slotted_rebuilding.specs.Counted.{CountsGo}
use Rattle.slotted_operations.specs.Good.{Good, image_of}
use Rattle.slotted_operations.specs.Image.{AddsClasses, FoundAlike, found_id}
use Rattle.slotted_operations.proofs.Graphs.Images.{found_id-is}

module _ (k : Kept) (r : Rows) (good : Good k) (l : Kept) (q : Rows) (goes_on : GoesOn (state_in k r) (state_in l q)) where
  within : (c : Applied) → IsFull (nodes_of k) c → c.0 < length (nodes_of k)
  within c full = full.in_range

  stays : (i : ℕ) → i < length (nodes_of k) → i < length l.classes
  stays i h = let s : i < length (nodes_of l) = (goes_on.classes i h).0 in let n : length (nodes_of l) ≡ length l.classes = length-nodes_of l in omega arith

  pub finds-old : (c : Applied) → IsFull (nodes_of k) c → found_id (image_of k) c ≡ find (entries_of k) c
  finds-old c full = found_id-is k c (let h : c.0 < length (nodes_of k) = within c full in let n : length (nodes_of k) ≡ length k.classes = length-nodes_of k in omega arith)

  pub finds-new : (c : Applied) → IsFull (nodes_of k) c → found_id (image_of l) c ≡ find (entries_of l) c
  finds-new c full = found_id-is l c (stays c.0 (within c full))

  pub finds-on : (c : Applied) → IsFull (nodes_of k) c → found_id (image_of l) c ≡ found_id (image_of l) (found_id (image_of k) c)
  finds-on c full =
      let v : IsValidIn (state_in k r) c = full-is_valid (nodes_of k) (entries_of k) good.stored.sane.sound.linked c full in
      let h : find_class (entries_of k) c.0 < length (nodes_of k) = (found-valid (nodes_of k) (entries_of k) good.stored.sane.sound.linked c v).in_range in
      finds-new c full
      ∙ ((goes_on.finds c v).1
      ∙ (sym (found_id-is l (find (entries_of k) c) (stays (find_class (entries_of k) c.0) h))
      ∙ ap (found_id (image_of l)) (sym (finds-old c full))))

  pub alike-on : (c d : Applied) → IsFull (nodes_of k) c → IsFull (nodes_of k) d → FoundAlike (image_of k) c d → FoundAlike (image_of l) c d
  alike-on c d fc fd e = finds-on c fc ∙ (ap (found_id (image_of l)) e ∙ sym (finds-on d fd))

  -- nothing more is asserted
  pub adds-classes : (more : List Proven) → l.proofs ≡ k.proofs ++ more → (listed : List SymmetryEntry) → l.symmetries ≡ k.symmetries ++ listed →
      asserted (nodes_of l) (proofs_of l) ≡ asserted (nodes_of k) (proofs_of k) → CountsGo k.counts l.counts → AddsClasses (image_of k) (image_of l)
  adds-classes more grows listed lists same counts = record {
    more = map entry_of more;
    entries = ap (map entry_of) grows ∙ map-append entry_of k.proofs more;
    more_stored = more;
    stored = grows;
    asserted = same;
    listed = listed;
    symmetries = lists;
    finds = finds-on;
    alike = alike-on;
    counts = counts;
  }
