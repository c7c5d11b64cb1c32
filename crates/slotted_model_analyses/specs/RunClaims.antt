-- The laws of rebuilding with data, for data of any type D, owed by `run_laws_hold` in src/rebuild.rt.
use Rattle.std.specs.Prelude.{◌≡◌, ◌≢◌, ◌⊎◌, ℕ, suc, ◌+◌, ◌-◌, ◌*◌, ◌<◌, ◌≤◌, length, map, Contains}
use Rattle.slotted_theory.specs.Nameless.{DTerm}
use Rattle.slotted_theory.specs.Shape.{shape}
use Rattle.slotted_model.specs.Classes.{canonical_node}
use Rattle.slotted_model.specs.Correspondence.{AllDifferent}
use Rattle.slotted_model.specs.Cost.{AreAlike}
use Rattle.slotted_model.specs.Find.{find_class}
use Rattle.slotted_model.specs.State.{Row, State, normal_node, child_classes}
use Rattle.slotted_model.specs.Rest.{Sane, Represents, lives_from, slots_from}
use Rattle.slotted_model.specs.Changes.{Unites}
use Rattle.slotted_model.specs.Rebuild.{with_row, row_for, IsCovered, Turn, Acts, Runs, IsRebuilt}
use Rattle.slotted_model_analyses.specs.Analysis.{Analysis, IsMerge, MakesAlike, Absorbs}
use Rattle.slotted_model_analyses.specs.DataPart.{DataPart, Merges, Carries, Follows, FollowsAct, TakesData, RunsWithData, HasData, size_with_data, GoesDown, DataGoesDown, HasNothingLeftWithData, RestsWithData, heights_from}

-- after a value was merged into the data of a class, that absorbs it; data goes down; and merging the value again changes
-- nothing, whatever the graph
abbrev pub MergingAgainChangesNothing : Type 0 → Type 0
MergingAgainChangesNothing D =
    (a : Analysis D) → IsMerge D a → (g : State) (s : DataPart D) (c : ℕ) (v : D) (t : DataPart D) → Merges a g s c v t →
    Absorbs a (t.data_of c) v × GoesDown a s t × ((h : State) (u : DataPart D) → Merges a h t c v u → u ≡ t)

-- data can go along each union, turn and act
abbrev pub DataCanGoAlong : Type 0 → Type 0
DataCanGoAlong D =
    (a : Analysis D) → IsMerge D a → (s : DataPart D) → AllDifferent s.pending → AllDifferent s.changed →
    ((p : ℕ) (g h : State) (u : Unites p g h) → (t : DataPart D) × Carries a u s t)
    × ((g h : State) (k : Turn g h) → (t : DataPart D) × Follows a k s t)
    × ((g h : State) (k : Acts g h) → (t : DataPart D) × FollowsAct a k s t)

-- along a union what does not wait still absorbs what it makes, data goes down, and the size with heights never rises
abbrev pub UnionsCarryData : Type 0 → Type 0
UnionsCarryData D =
    (a : Analysis D) → IsMerge D a → (p : ℕ) (g h : State) (u : Unites p g h) → Sane g → p < length g.proofs → (s t : DataPart D) →
    HasData a g s → Carries a u s t →
    HasData a h t × DataGoesDown a g s h t × GoesDown a s t × (size_with_data a h t ≤ size_with_data a g s)

-- the size with heights has fallen, or it is the same and one row less waits
abbrev pub FallsOrTakes : {D : Type 0} → Analysis D → State → DataPart D → State → DataPart D → Type 0
FallsOrTakes a g s h t = (size_with_data a h t < size_with_data a g s) ⊎ ((size_with_data a h t ≡ size_with_data a g s)
    × (suc (length t.pending) ≡ length s.pending))

-- so it is along a turn, where the size falls or one row less waits
abbrev pub TurnsCarryData : Type 0 → Type 0
TurnsCarryData D =
    (a : Analysis D) → IsMerge D a → (g h : State) (k : Turn g h) → Sane g → (s t : DataPart D) → HasData a g s → Follows a k s t →
    HasData a h t × DataGoesDown a g s h t × GoesDown a s t × FallsOrTakes a g s h t

-- and in the turn of a row that waits for data alone, in which the graph stays
abbrev pub DataTurnsCarryData : Type 0 → Type 0
DataTurnsCarryData D =
    (a : Analysis D) → IsMerge D a → (g : State) → Sane g → (s t : DataPart D) → HasData a g s → TakesData a g s t →
    HasData a g t × DataGoesDown a g s g t × GoesDown a s t × FallsOrTakes a g s g t

-- along an act the size falls
abbrev pub ActsCarryData : Type 0 → Type 0
ActsCarryData D =
    (a : Analysis D) → IsMerge D a → (g h : State) (k : Acts g h) → Sane g → (s t : DataPart D) → HasData a g s → FollowsAct a k s t →
    HasData a h t × DataGoesDown a g s h t × GoesDown a s t × (size_with_data a h t < size_with_data a g s)

-- a row that does not wait as a whole may take its turn as if it did: its node is covered, no other row has its shape, and filing
-- it anew changes nothing
abbrev pub FilingAgainChangesNothing : Type 0
FilingAgainChangesNothing =
    (g : State) → Sane g → (r : Row) → Contains g.rows r → ¬ Contains g.waiting r.source →
    IsCovered g r.source × ((q : Row) → Contains g.rows q → q.source ≢ r.source → q.shape ≢ shape (normal_node g r.source))
    × (row_for g r.source ≡ r) × (with_row (row_for g r.source) g.rows ≡ g.rows)

-- the size with heights is the number of live classes, that of their slots, and the heights of their data together
abbrev pub SizeAddsHeights : Type 0 → Type 0
SizeAddsHeights D =
    (a : Analysis D) (g : State) (s : DataPart D) →
    size_with_data a g s ≡ lives_from 0 g.found + slots_from 0 g.found + heights_from a s.data_of 0 g.found

-- no more rows wait than there are
abbrev pub NoMorePendingThanRows : Type 0 → Type 0
NoMorePendingThanRows D = (a : Analysis D) (g : State) (s : DataPart D) → HasData a g s → length s.pending ≤ length g.rows

-- the graphs of a run with data are those of a run, which takes no more turns: so all its laws hold
abbrev pub RunsStandOnRuns : Type 0 → Type 0
RunsStandOnRuns D = (a : Analysis D) (f : State) (s : DataPart D) (n : ℕ) (h : State) (t : DataPart D) → RunsWithData a f s n h t →
    (m : ℕ) × (m ≤ n) × Runs f m h

-- what does not wait absorbs what it makes at each moment of a run; and the turns taken, those for data alone too, with what
-- waits are at most the rows at the start, times one more than the size with heights has fallen by
abbrev pub RunsWithDataAreCounted : Type 0 → Type 0
RunsWithDataAreCounted D =
    (a : Analysis D) → IsMerge D a → (f : State) (s : DataPart D) (n : ℕ) (h : State) (t : DataPart D) → Sane f → HasData a f s →
    RunsWithData a f s n h t →
    IsRebuilt f h × HasData a h t × (size_with_data a h t ≤ size_with_data a f s)
    × (n + length t.pending ≤ length f.rows * (suc (size_with_data a f s) - size_with_data a h t))

-- in a run the data of each class goes down, and the classes that wait to be modified are those that did, and those whose data
-- has changed
abbrev pub RunsLowerData : Type 0 → Type 0
RunsLowerData D =
    (a : Analysis D) → IsMerge D a → (f : State) (s : DataPart D) (n : ℕ) (h : State) (t : DataPart D) → Sane f → HasData a f s →
    RunsWithData a f s n h t →
    DataGoesDown a f s h t × GoesDown a s t

-- something can be done, by which the run goes on, or nothing is left to do
abbrev pub StepsAreThereWithData : Type 0 → Type 0
StepsAreThereWithData D =
    (a : Analysis D) → IsMerge D a → (f : State) (s : DataPart D) (n : ℕ) (g : State) (t : DataPart D) → Sane f → HasData a f s →
    RunsWithData a f s n g t →
    HasNothingLeftWithData g t ⊎ ((m : ℕ) × (h : State) × (u : DataPart D) × RunsWithData a f s m h u × FallsOrTakes a g t h u)

-- a run that has nothing left to do ends at rest, with data
abbrev pub RunsEndAtRestWithData : Type 0 → Type 0
RunsEndAtRestWithData D =
    (a : Analysis D) → IsMerge D a → (f : State) (s : DataPart D) (n : ℕ) (h : State) (t : DataPart D) → Sane f → HasData a f s →
    Represents f → RunsWithData a f s n h t →
    HasNothingLeftWithData h t → RestsWithData a h t

-- from each sane graph that represents what was added and asserted a run with data leads to rest
abbrev pub RebuildingEndsWithData : Type 0 → Type 0
RebuildingEndsWithData D =
    (a : Analysis D) → IsMerge D a → (f : State) (s : DataPart D) → Sane f → HasData a f s → Represents f →
    (n : ℕ) × (h : State) × (t : DataPart D) × RunsWithData a f s n h t × RestsWithData a h t

-- at rest merging what the node of any row makes changes nothing; nor does it for the canonical node of any class, over the
-- classes that its children find, if alike nodes make alike
abbrev pub RestAbsorbs : Type 0 → (DTerm → Type 0) → Type 0
RestAbsorbs D is_known =
    (a : Analysis D) → (g : State) (s : DataPart D) → RestsWithData a g s →
    ((r : Row) → Contains g.rows r →
    Absorbs a (s.data_of (find_class g.found r.source)) (a.make r.shape (map s.data_of (child_classes r.shape.args))))
    × (MakesAlike is_known D a → ((d e : DTerm) → AreAlike d e → is_known e → is_known d) →
    ((r : Row) → Contains g.rows r → is_known r.shape) →
    (i : ℕ) → i < length g.nodes →
    Absorbs a (s.data_of (find_class g.found i)) (a.make (canonical_node g.nodes i) (map (λ c. s.data_of (find_class g.found c)) (child_classes (canonical_node g.nodes i).args))))

-- all these laws
pub record RunLaws (D : Type 0) (is_known : DTerm → Type 0) : Type 0 where
  pub merging_again_changes_nothing : MergingAgainChangesNothing D
  pub data_can_go_along : DataCanGoAlong D
  pub unions_carry_data : UnionsCarryData D
  pub turns_carry_data : TurnsCarryData D
  pub data_turns_carry_data : DataTurnsCarryData D
  pub acts_carry_data : ActsCarryData D
  pub filing_again_changes_nothing : FilingAgainChangesNothing
  pub size_adds_heights : SizeAddsHeights D
  pub no_more_pending_than_rows : NoMorePendingThanRows D
  pub runs_stand_on_runs : RunsStandOnRuns D
  pub runs_with_data_are_counted : RunsWithDataAreCounted D
  pub runs_lower_data : RunsLowerData D
  pub steps_are_there_with_data : StepsAreThereWithData D
  pub runs_end_at_rest_with_data : RunsEndAtRestWithData D
  pub rebuilding_ends_with_data : RebuildingEndsWithData D
  pub rest_absorbs : RestAbsorbs D is_known
