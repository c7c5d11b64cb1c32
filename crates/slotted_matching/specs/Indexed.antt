-- The index of the filed nodes of a graph.
--     filing_at v o             what is filed of the class o
--     source_row v o            its row
--     key_of v o                its key
--     IsSourceRow k r S o row   the row is that of the class o by numbers, and its outline is the place of the key's skeleton in S
--     AreSourceRows k r S os rows   there is one for each of the classes os
--     HasWideKey r              some filed key has too many places and children
--     AreSourcesBelow k r i v   v has for each class its sources below i
--     AreClassSources k r v     v has for each class its sources
--     AreClassRows k r S n x    x has the rows of the first n classes
--     HasOutlineOf v S q row    the outline of the row is the place of the skeleton of the key that q is the row of
--     IsIndexed k r S x         the index x has the filed nodes as rows, whose outlines are places in S
use Rattle.std.specs.Prelude.{◌≡◌, ◌<◌, ℕ, List, [], Option, filter, length, unwrap_or, slice_index_or}
use Rattle.std.specs.List.{range_with_len}
use Rattle.std.specs.List.Sorted.{IsPermutation}
use Rattle.slotted_nodes.specs.Form.{Form, leaf}
use Rattle.slotted_languages.specs.Outline.{skeleton_form}
use Rattle.slotted_model.specs.Find.{IsLive, entry_at}
use Rattle.slotted_model.specs.State.{Row}
use Rattle.slotted_classes.specs.Kept.{Kept, entries_of}
use Rattle.slotted_hashcons.specs.Filed.{Filing, filed_of, HasKey}
use Rattle.slotted_hashcons.specs.FiledRows.{Rows, row_of_entry}
use Rattle.slotted_hashcons.specs.WellFiled.{state_in}
use Rattle.slotted_lookup.specs.Reports.{class_sources, is_source}
use Rattle.slotted_match_machine.specs.declared.index.ClassRows.{ClassRows}
use Rattle.slotted_match_machine.specs.declared.index.IndexRow.{IndexRow}
use Rattle.slotted_match_machine.specs.declared.index.RowIndex.{RowIndex}
use Rattle.slotted_match_machine.specs.Index.{IsIndexOf, IsIndexRow, OneByOne, rows_of_class}
use Rattle.slotted_match_machine.specs.Machine.{rows_in, slot_count_in}
use Rattle.slotted_matching.specs.Skeletons.{HasManyPlaces, StandsAt}

abbrev pub no_filing : Filing
no_filing = (record { operator = 0; payloads = []; tree = leaf; names = [] }, [])

abbrev pub filing_at : List (Option Filing) → ℕ → Filing
filing_at v o = unwrap_or (filed_of v o) no_filing

abbrev pub key_of : List (Option Filing) → ℕ → Form
key_of v o = (filing_at v o).0

abbrev pub source_row : List (Option Filing) → ℕ → Row
source_row v o = row_of_entry ((filing_at v o).0, (o, (filing_at v o).1))

pub record IsSourceRow (k : Kept) (r : Rows) (S : List Form) (o : ℕ) (row : IndexRow) : Type 0 where
  pub is : IsIndexRow (state_in k r) (source_row r.filed o) row
  pub place : StandsAt S (skeleton_form (key_of r.filed o)) row.outline

-- in some order
pub record AreSourceRows (k : Kept) (r : Rows) (S : List Form) (sources : List ℕ) (rows : List IndexRow) : Type 0 where
  pub order : List ℕ
  pub same : IsPermutation sources order
  pub each : OneByOne (IsSourceRow k r S) order rows

abbrev pub HasWideKey : Rows → Type 0
HasWideKey r = (o : ℕ) × (f : Form) × HasKey r.filed o f × HasManyPlaces f

pub record HasOutlineOf (v : List (Option Filing)) (S : List Form) (q : Row) (row : IndexRow) : Type 0 where
  pub source : ℕ
  pub is : q ≡ source_row v source
  pub place : StandsAt S (skeleton_form (key_of v source)) row.outline

pub record IsIndexed (k : Kept) (r : Rows) (S : List Form) (x : RowIndex) : Type 0 where
  pub order : List Row
  pub index : IsIndexOf (state_in k r) order x
  pub outlines : (c : ℕ) → c < length k.classes → IsLive (entries_of k) c →
      OneByOne (HasOutlineOf r.filed S) (rows_of_class (state_in k r) order c) (rows_in x.classes.items c)

-- for each class those of the first i classes that find it and of which something is filed
pub record AreSourcesBelow (k : Kept) (r : Rows) (i : ℕ) (v : List (List ℕ)) : Type 0 where
  pub count : length v ≡ length k.classes
  pub at : (c : ℕ) → c < length k.classes → slice_index_or v c [] ≡ filter (is_source k r c) (range_with_len 0 i)

-- for each class its sources
abbrev pub AreClassSources : Kept → Rows → List (List ℕ) → Type 0
AreClassSources k r v = AreSourcesBelow k r (length r.filed) v

-- the rows of the first n classes
pub record AreClassRows (k : Kept) (r : Rows) (S : List Form) (n : ℕ) (classes : List ClassRows) : Type 0 where
  pub count : length classes ≡ n
  pub slot_counts : (c : ℕ) → c < n → slot_count_in classes c ≡ length (entry_at (entries_of k) c).pairs
  pub rows : (c : ℕ) → c < n → AreSourceRows k r S (class_sources k r c) (rows_in classes c)
