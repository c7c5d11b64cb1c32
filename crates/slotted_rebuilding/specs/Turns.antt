-- The turn of a class whose node waits.
--     IsFirst r o          the class o waits first
--     LacksSlot k o        its node in normal form lacks a slot that it uses
--     SharesKey            the shape of its node is filed of another class
--     ProvesCongruence     the congruence of two classes was entered, and nothing else
--     NarrowsOnce          the class is united with itself, since its node lacks a slot, and the size falls
--     NarrowsTo            so often that the node has each slot of the class
--     TakesTurns           turns lead from one to the other
--     RebuildsSoFar        turns and acts, at least as many turns as are counted
--     RebuildsAll          the same, until nothing is left to do
--     Rebuilds             so it is, and it is noted
use Rattle.std.specs.Prelude.{◌≡◌, ℕ, ◌<◌, ◌≤◌, List, Contains, Some, false, slice_get}
use Rattle.slotted_model.specs.Find.{used_slots}
use Rattle.slotted_model.specs.Ascending.{names}
use Rattle.slotted_model.specs.Rebuild.{Runs, Turn, HasNothingLeft, IsCovered, IsCongruence}
use Rattle.slotted_model.specs.Rest.{size}
use Rattle.slotted_model.specs.State.{normal_node}
use Rattle.slotted_nodes.specs.Form.{Form}
use Rattle.slotted_languages.specs.Shape.{Fits}
use Rattle.slotted_hashcons.specs.Filed.{HasKey}
use Rattle.slotted_hashcons.specs.FoundNodes.{IsFoundNode, finds_of}
use Rattle.slotted_classes.specs.Kept.{Kept}
use Rattle.slotted_hashcons.specs.FiledRows.{Rows, WaitsOn}
use Rattle.slotted_rebuilding.specs.Proving.{OnlyProves}
use Rattle.slotted_classes.specs.StateOf.{state_of}
use Rattle.slotted_rebuilding.specs.Grows.{Grows, GrowsUncounted}
use Rattle.slotted_rebuilding.specs.Counted.{NotesRebuild}
use Rattle.slotted_hashcons.specs.WellFiled.{state_in, IsWellFiled}

-- the class is the first one that waits
abbrev pub IsFirst : Rows → ℕ → Type 0
IsFirst r o = slice_get r.waiting 0 ≡ Some o

-- the node of the class o in normal form lacks a slot that the class uses
abbrev pub LacksSlot : Kept → ℕ → Type 0
LacksSlot k o = (s : ℕ) × Contains (used_slots (finds_of k).found o) s × (¬ Contains (names (normal_node (finds_of k) o)) s)

-- the shape of the node of the class o in normal form is the key that is filed of another class
pub record SharesKey (k : Kept) (r : Rows) (o : ℕ) (slots : List (ℕ × ℕ)) (other : ℕ) : Type 0 where
  pub key : Form
  pub fits : Fits key
  pub node : IsFoundNode k o key slots
  pub filed : HasKey r.filed other key

-- nothing but proofs was entered, of which p is a congruence of the two classes
pub record ProvesCongruence (k l : Kept) (i j p : ℕ) : Type 0 where
  pub only : OnlyProves k l
  pub congruence : IsCongruence (state_of l) p i j

-- one turn of the class, by which the size fell
pub record NarrowsOnce (k : Kept) (r : Rows) (l : Kept) (q : Rows) : Type 0 where
  pub turn : Turn (state_in k r) (state_in l q)
  pub filed : IsWellFiled l q
  pub grows : Grows k l
  pub waits : WaitsOn r q
  pub smaller : size (state_of l) < size (state_of k)

-- turns of the class, after which its node has each slot that it uses
pub record NarrowsTo (k : Kept) (r : Rows) (o : ℕ) (l : Kept) (q : Rows) (key : Form) (slots : List (ℕ × ℕ)) : Type 0 where
  pub turns : ℕ
  pub runs : Runs (state_in k r) turns (state_in l q)
  pub filed : IsWellFiled l q
  pub grows : Grows k l
  pub waits : WaitsOn r q
  pub node : IsFoundNode l o key slots
  pub covered : IsCovered (finds_of l) o

-- one turn or more
pub record TakesTurns (k : Kept) (r : Rows) (l : Kept) (q : Rows) : Type 0 where
  pub turns : ℕ
  pub some : 0 < turns
  pub runs : Runs (state_in k r) turns (state_in l q)
  pub filed : IsWellFiled l q
  pub grows : Grows k l

-- turns, at least as many as are counted, and acts lead from one to the other, whose symmetries are all known to be aligned
pub record RebuildsSoFar (k : Kept) (r : Rows) (l : Kept) (q : Rows) (counted : ℕ) : Type 0 where
  pub turns : ℕ
  pub at_least : counted ≤ turns
  pub runs : Runs (state_in k r) turns (state_in l q)
  pub filed : IsWellFiled l q
  pub grows : Grows k l
  pub settled : l.dropped ≡ false

-- the same where nothing is left to do
pub record RebuildsAll (k : Kept) (r : Rows) (l : Kept) (q : Rows) (counted : ℕ) : Type 0 where
  pub so_far : RebuildsSoFar k r l q counted
  pub nothing_left : HasNothingLeft (state_in l q)

-- turns, at least as many as are counted, and acts lead from one to the other, where nothing is left to do, whose symmetries are all known to be aligned,
-- and which notes as many turns
pub record Rebuilds (k : Kept) (r : Rows) (l : Kept) (q : Rows) (counted : ℕ) : Type 0 where
  pub turns : ℕ
  pub at_least : counted ≤ turns
  pub runs : Runs (state_in k r) turns (state_in l q)
  pub filed : IsWellFiled l q
  pub grows : GrowsUncounted k l
  pub nothing_left : HasNothingLeft (state_in l q)
  pub settled : l.dropped ≡ false
  pub notes : NotesRebuild k r l counted
