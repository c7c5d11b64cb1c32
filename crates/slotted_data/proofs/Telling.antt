-- What data at rest and carried data tell callers.
use Rattle.std.proofs.Common.{◌≡◌, ◌<◌, ℕ, List, length, Some, sym, ◌∙◌, ap, subst, arith}
use Rattle.std.proofs.lemmas.Option.{get_or_from_slice_get, slice_get_within, slice_get-get_or}
use Rattle.slotted_lists.proofs.Contained.{Contains-nil}
use Rattle.slotted_model.specs.Find.{find_class}
use Rattle.slotted_model.proofs.Finds.Finding.{leads, found-in_range}
use Rattle.slotted_model_analyses.specs.Analysis.{Analysis, Absorbs}
use Rattle.slotted_classes.specs.Kept.{Kept, nodes_of, entries_of}
use Rattle.slotted_classes.proofs.KeptLists.{length-entries_of, length-nodes_of}
use Rattle.slotted_hashcons.specs.FiledRows.{Rows, rows_in}
use Rattle.slotted_data.specs.Held.{Held}
use Rattle.slotted_data.specs.Made.{data_in}
use Rattle.slotted_data.specs.Carrying.{CarriedWith, DataRests}
use Rattle.slotted_data.specs.Part.{HasDatum, AbsorbsMade, OnlyFalls, NotesChanges}

module _ {D : Type 0} (a : Analysis D) where
  pub rest-absorbs : (k : Kept) (r : Rows) (d : Held D) → DataRests a k r d → AbsorbsMade a (rows_in r.filed) (entries_of k) d.values
  rest-absorbs k r d rests x w there = (rests.has x).absorbs_made w there (λ h. Contains-nil w.source h)

  -- each class has data
  pub rest-has : (k : Kept) (r : Rows) (d : Held D) → DataRests a k r d → (i : ℕ) → i < length k.classes → (x : D) → HasDatum (entries_of k) d.values i (data_in x d.values (find_class (entries_of k) i))
  rest-has k r d rests i h x =
      let n = length-nodes_of k in
      let c = rests.count in
      let f = found-in_range (nodes_of k) (entries_of k) (leads (nodes_of k) (entries_of k) rests.rest.sane.sound.linked) i (omega (arith, h, n)) in
      slice_get-get_or d.values (find_class (entries_of k) i) x (omega (arith, f, n, c))

  module _ (k : Kept) (r : Rows) (l : Kept) (q : Rows) (d e : Held D) (rests : DataRests a k r d) {given : List (ℕ × D)} (carried : CarriedWith given a k r l q d e) where
    pub carried-falls : OnlyFalls a (entries_of k) d.values (entries_of l) e.values
    carried-falls i h x y old new =
        let n = length-nodes_of k in
        let m = length-entries_of k in
        let had : data_in x d.values (find_class (entries_of k) i) ≡ x = get_or_from_slice_get d.values (find_class (entries_of k) i) x x old in
        let has : data_in x e.values (find_class (entries_of l) i) ≡ y = get_or_from_slice_get e.values (find_class (entries_of l) i) y x new in
        subst (λ z. Absorbs a z x) has (subst (Absorbs a (data_in x e.values (find_class (entries_of l) i))) had (carried.down x i (omega (arith, h, n, m))))

    pub carried-notes : D → NotesChanges d.values d.changed e.values e.changed
    carried-notes x = record {
      kept = (carried.noted x).kept;
      same = λ i y new n.
          let within = slice_get_within e.values i y new in
          let count = carried.rests.count in
          let nodes = length-nodes_of l in
          let older = length-nodes_of k in
          let c = rests.count in
          let is = (carried.noted y).noted i (omega (arith, within, count, nodes)) n in
          let in_k = is.0 in
          slice_get-get_or d.values i y (omega (arith, in_k, older, c)) ∙ ap Some (sym is.1 ∙ get_or_from_slice_get e.values i y y new);
    }
