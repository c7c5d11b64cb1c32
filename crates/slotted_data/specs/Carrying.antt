-- Carrying data along, from one graph at rest to a later one.
--     DataRests a k r d         the graph is at rest with data d for all of its classes
--     AreCounted a k d          what is noted of its rebuilds fits
--     RestedBefore a k r l q d  the older graph rested with d, and the newer one goes on from it
--     HasCarriedAll l d         each class has data, and each death has been carried
--     Carried a k r l q d e     the newer one is at rest with e, which went down from d and comes from it; what was made or has changed waits to be
--                               modified
--     CarriedWith given ..      the same, where data comes from what was given, too
--     CarriesUp a l q t d e     the steps: users are entered, the dead are buried, and what nodes make goes upwards
--     MergesIn a k q i v d e    v is merged into the data of the class that i finds, and goes upwards
use Rattle.std.specs.Prelude.{◌≡◌, ◌<◌, ℕ, List, [], ◌∷◌, ◌++◌, length, drop, true, false, IsTrue}
use Rattle.slotted_model.specs.Changes.{GoesOn}
use Rattle.slotted_model.specs.Rest.{AtRest}
use Rattle.slotted_model_analyses.specs.Analysis.{Analysis, Absorbs}
use Rattle.slotted_model_analyses.specs.DataPart.{DataGoesDown, GoesDown, HasData}
use Rattle.slotted_model_analyses.specs.DataWrites.{HasNotedAll, MergesInto}
use Rattle.slotted_classes.specs.Kept.{Kept, ListsDead, entries_of, nodes_of, size_of}
use Rattle.slotted_hashcons.specs.FiledRows.{Rows}
use Rattle.slotted_rebuilding.specs.Counted.{CountsFit, CountsGo}
use Rattle.slotted_hashcons.specs.WellFiled.{state_in}
use Rattle.slotted_data.specs.Grounded.{Grounds, IsOldOr}
use Rattle.slotted_data.specs.Held.{Held, no_turns}
use Rattle.slotted_data.specs.Meaning.{Meaning, by_bare_nodes}
use Rattle.slotted_data.specs.Made.{AddsNew, HasHeights, data_in}
use Rattle.slotted_data.specs.Users.{EntersUsers, found_in}
use Rattle.slotted_data.specs.Lowering.{HasUsers, RisesTo, part_of}
use Rattle.slotted_data.specs.Burying.{Buries}

-- at rest there is data for each class, and merging what a filed node makes changes nothing; x stands where there is no class
pub record DataRests {D : Type 0} (a : Analysis D) (k : Kept) (r : Rows) (d : Held D) : Type 0 where
  pub rest : AtRest (state_in k r)
  pub count : length d.values ≡ length k.classes
  pub has : (x : D) → HasData a (state_in k r) (part_of x d [])
  -- all classes are among the users of what their children find, or none is, and then all data has height 0
  pub users : HasUsers k d.entered d
  pub all : IsTrue d.tall → d.entered ≡ length k.classes
  pub low : d.tall ≡ false → (d.entered ≡ 0) × ((i : ℕ) → i < length k.classes → (x : D) → a.height (data_in x d.values i) ≡ 0)
  -- each death has been carried
  pub carried : d.carried ≡ length k.deaths
  pub dead : ListsDead k.deaths (entries_of k)
  -- turns for data were no more than their bounds allow, and none were taken as long as all data had height 0
  pub counts : CountsFit d.counts.own 0
  pub still : d.tall ≡ false → d.counts ≡ no_turns
  pub high : d.tall ≡ true → HasHeights a

-- what is noted of the rebuilds of a graph that has data for all classes, and of its turns for data
pub record AreCounted {D : Type 0} (a : Analysis D) (k : Kept) (d : Held D) : Type 0 where
  pub count : length d.values ≡ length k.classes
  pub rebuilds : CountsFit k.counts (size_of k)
  pub turns : CountsFit d.counts.own 0
  pub still : d.tall ≡ false → d.counts ≡ no_turns
  pub low : d.tall ≡ false → (i : ℕ) → i < length k.classes → (x : D) → a.height (data_in x d.values i) ≡ 0

-- the graph of k and r was at rest with this data, and that of l and q goes on from it
pub record RestedBefore {D : Type 0} (a : Analysis D) (k : Kept) (r : Rows) (l : Kept) (q : Rows) (d : Held D) : Type 0 where
  pub rested : DataRests a k r d
  pub goes_on : GoesOn (state_in k r) (state_in l q)
  pub more : List ℕ
  pub deaths : l.deaths ≡ k.deaths ++ more

-- some graph was
abbrev pub RestedOnce : {D : Type 0} → Analysis D → Kept → Rows → Held D → Type 0
RestedOnce a l q d = (k : Kept) × (r : Rows) × RestedBefore a k r l q d

-- each class has data, and each death has been carried
abbrev pub HasCarriedAll : {D : Type 0} → Kept → Held D → Type 0
HasCarriedAll l d = (length d.values ≡ length l.classes) × (d.carried ≡ length l.deaths)

-- the data e of the newer graph is that of rest again; it only went down from d; it comes from d, nodes, and what was given; and what was made, or
-- has changed, waits to be modified
pub record CarriedWith {D : Type 0} (given : List (ℕ × D)) (a : Analysis D) (k : Kept) (r : Rows) (l : Kept) (q : Rows) (d e : Held D) : Type 0 where
  pub rests : DataRests a l q e
  pub down : (x : D) → DataGoesDown a (state_in k r) (part_of x d []) (state_in l q) (part_of x e [])
  pub grounded : Grounds a (nodes_of l) (found_in l) (IsOldOr given d.values) e.values
  pub noted : (x : D) → HasNotedAll (state_in k r) (part_of x d []) (state_in l q) (part_of x e [])
  pub counts : CountsGo d.counts.own e.counts.own

abbrev pub Carried : {D : Type 0} → Analysis D → Kept → Rows → Kept → Rows → Held D → Held D → Type 0
Carried a k r l q d e = CarriedWith [] a k r l q d e

-- and since then each class that was made has got data
pub record HasNewData {D : Type 0} (meaning : Meaning D) (l : Kept) (q : Rows) (e : Held D) : Type 0 where
  pub kept : Kept
  pub rows : Rows
  pub held : Held D
  pub before : RestedBefore (by_bare_nodes meaning) kept rows l q held
  pub new : AddsNew meaning l held e
  pub count : length e.values ≡ length l.classes

-- all classes are entered among the users of what their children find, the classes that died go to what they find, and values go upwards
pub record CarriesUp {D : Type 0} (a : Analysis D) (l : Kept) (q t : Rows) (d f : Held D) : Type 0 where
  pub entered_rows : Rows
  pub entered_data : Held D
  pub enters : EntersUsers l d.entered (length l.classes) q entered_rows d entered_data
  pub entered : entered_data.entered ≡ length l.classes
  pub buried_rows : Rows
  pub buried_data : Held D
  pub buries : Buries a l (drop d.carried l.deaths) entered_rows buried_rows entered_data buried_data
  pub rises : RisesTo a l buried_rows t buried_data f

-- v is merged into the data of the class that i finds, and values go upwards; the graph is at rest with what is there then
pub record MergesIn {D : Type 0} (a : Analysis D) (k : Kept) (q : Rows) (i : ℕ) (v : D) (d e : Held D) : Type 0 where
  pub rests : DataRests a k q e
  pub merges : (x : D) → MergesInto a (state_in k q) (part_of x d []) i v (state_in k q) (part_of x e [])
  -- merging it again changes nothing
  pub absorbs : (x : D) → Absorbs a (data_in x e.values (found_in k i)) v
  pub down : (x : D) → GoesDown a (part_of x d []) (part_of x e [])
  pub grounded : Grounds a (nodes_of k) (found_in k) (IsOldOr ((i, v) ∷ []) d.values) e.values
  pub counts : CountsGo d.counts.own e.counts.own
