-- A class that was just made, and how it is filed.
--     IsUnfiled k r       one class is kept more than the filed nodes know of
--     HasNewest k r o     the class o is the newest one, and nothing is filed of it
--     BeginsAdding        it was filed, or united with the class that has its node: a run that leaves nothing to do ends the making of the class
--     FilesNewest         so it was, and nothing is left to do
use Rattle.std.specs.Prelude.{◌≡◌, ℕ, suc, ◌<◌, [], Some, false, length}
use Rattle.slotted_theory.specs.Nameless.{DTerm}
use Rattle.slotted_model.specs.Adding.{Adds, with_new_class}
use Rattle.slotted_model.specs.Rebuild.{HasNothingLeft, Runs}
use Rattle.slotted_model.specs.Rest.{Sane}
use Rattle.slotted_model.specs.State.{State}
use Rattle.slotted_languages.specs.Shape.{Fits}
use Rattle.slotted_classes.specs.Kept.{Kept, node_at, rows_from, size_of}
use Rattle.slotted_hashcons.specs.Filed.{Filing, filed_of}
use Rattle.slotted_hashcons.specs.FiledRows.{Rows, with_class}
use Rattle.slotted_hashcons.specs.FoundNodes.{HasNoMorePlaces}
use Rattle.slotted_classes.specs.Stored.{Stored}
use Rattle.slotted_rebuilding.specs.Grows.{Grows, GrowsUncounted}
use Rattle.slotted_rebuilding.specs.Counted.{CountsFit, CountsGo, TotalsFit}
use Rattle.slotted_hashcons.specs.WellFiled.{state_in, IsKeyed, IsWellFiled}

-- one class was made since the rest of r: it is not filed yet, nothing waits, and the state is sane
pub record IsUnfiled (k : Kept) (r : Rows) : Type 0 where
  pub stored : Stored k
  pub canonical : k.rows ≡ rows_from 0 k.classes
  pub fits : (i : ℕ) → i < length k.classes → Fits (node_at k i)
  pub count : length k.classes ≡ suc (length r.filed)
  pub sane : Sane (state_in k r)
  pub keyed : (i : ℕ) (e : Filing) → filed_of r.filed i ≡ Some e → IsKeyed e
  pub places : (i : ℕ) (e : Filing) → filed_of r.filed i ≡ Some e → HasNoMorePlaces k i e.0
  pub quiet : r.waiting ≡ []

-- there is a place for the newest class o too, where nothing is filed
pub record HasNewest (k : Kept) (r : Rows) (o : ℕ) : Type 0 where
  -- what was filed before there was the class
  pub older : Rows
  pub number : o ≡ length older.filed
  pub is : r ≡ with_class older
  pub filed : IsWellFiled k r
  pub quiet : r.waiting ≡ []

-- what a run that leaves nothing to do leads to is what the making of the class leads to, wherever there was one class less
pub record BeginsAdding (k : Kept) (r : Rows) (l : Kept) (q : Rows) : Type 0 where
  pub begins : (g : State) (c : DTerm) → state_in k r ≡ with_new_class g c → (turns : ℕ) (h : State) →
      Runs (state_in l q) turns h → HasNothingLeft h → Adds g c h
  pub filed : IsWellFiled l q
  pub grows : Grows k l

-- the newest class is filed, or united with the one that has its node, and nothing is left to do
pub record FilesNewest (k : Kept) (r : Rows) (l : Kept) (q : Rows) : Type 0 where
  -- this was the making of a class in the model's words, wherever the class was one more than those of g
  pub adds : (g : State) (c : DTerm) → state_in k r ≡ with_new_class g c → Adds g c (state_in l q)
  pub filed : IsWellFiled l q
  pub quiet : q.waiting ≡ []
  pub settled : l.dropped ≡ false
  pub grows : GrowsUncounted k l
  -- what was noted goes on, and fits
  pub counts : TotalsFit k.counts → CountsGo k.counts l.counts × CountsFit l.counts (size_of l)
