-- The laws of data that is carried along, for data of any type D, owed by `carry_laws_hold` in src/carry.rt.
use Rattle.std.specs.Prelude.{◌≡◌, ℕ, ◌<◌, [], length, Contains}
use Rattle.slotted_theory.specs.Nameless.{DTerm}
use Rattle.slotted_model.specs.Applied.{Applied}
use Rattle.slotted_model.specs.Classes.{IsFull}
use Rattle.slotted_model.specs.Cost.{AreAlike}
use Rattle.slotted_model.specs.Growth.{IsNew}
use Rattle.slotted_model.specs.State.{Row, State}
use Rattle.slotted_model.specs.Rest.{AtRest}
use Rattle.slotted_model.specs.Changes.{GoesOn}
use Rattle.slotted_model.specs.Adding.{Adds, Asserts}
use Rattle.slotted_model_analyses.specs.Analysis.{Analysis, IsMerge, MakesAlike}
use Rattle.slotted_model_analyses.specs.DataPart.{DataPart, RunsWithData, HasData, RestsWithData}
use Rattle.slotted_model_analyses.specs.DataWrites.{MergesInto, AddsWithData, AssertsWithData, HasNotedAll}
use Rattle.slotted_model_analyses.specs.Carried.{GoesAlong, CarriesTo}
use Rattle.slotted_model_analyses.specs.Rounds.{AddsNodes}
use Rattle.slotted_model_analyses.specs.Steps.{AddsNodesWithData}

-- a graph at rest that goes on from one that rested with its data has data, once what sees a change waits; nothing is asked of what
-- was done between the two
abbrev pub CarriedDataIsKept : Type 0 → (DTerm → Type 0) → Type 0
CarriedDataIsKept D is_known =
    (a : Analysis D) → IsMerge D a → MakesAlike is_known D a → ((d e : DTerm) → AreAlike d e → is_known e → is_known d) →
    (g : State) (s : DataPart D) → RestsWithData a g s → ((r : Row) → Contains g.rows r → is_known r.shape) →
    (h : State) (t : DataPart D) → AtRest h → GoesOn g h → ((r : Row) → Contains h.rows r → is_known r.shape) → GoesAlong a g s h t →
    HasData a h t

-- and where all that was made or has changed waits to be modified, a run leads to where no row waits; it leaves the graph, and to what
-- it leads, from whatever it was, the data is carried
abbrev pub CarriedDataComesToRest : Type 0 → (DTerm → Type 0) → Type 0
CarriedDataComesToRest D is_known =
    (a : Analysis D) → IsMerge D a → MakesAlike is_known D a → ((d e : DTerm) → AreAlike d e → is_known e → is_known d) →
    (g : State) (s : DataPart D) → RestsWithData a g s → ((r : Row) → Contains g.rows r → is_known r.shape) →
    (h : State) (t : DataPart D) → AtRest h → GoesOn g h → ((r : Row) → Contains h.rows r → is_known r.shape) → GoesAlong a g s h t →
    HasNotedAll g s h t →
    ((n : ℕ) × (u : DataPart D) × RunsWithData a h t n h u × (u.pending ≡ []))
    × ((n : ℕ) (k : State) (u : DataPart D) → RunsWithData a h t n k u → u.pending ≡ [] → (k ≡ h) × CarriesTo a g s h u)

-- data that goes along with each step of a write is carried: where a class is made, or one after another, where ids are asserted to
-- be equal, and where a value is merged into the data of a class
abbrev pub StepsAreCarried : Type 0 → Type 0
StepsAreCarried D =
    (a : Analysis D) → IsMerge D a → (g : State) (s : DataPart D) → RestsWithData a g s → (h : State) (t : DataPart D) →
    ((c : DTerm) → IsNew g.nodes c → AddsWithData a g s c h t → Adds g c h × CarriesTo a g s h t)
    × (AddsNodesWithData a g s h t → AddsNodes g h × CarriesTo a g s h t)
    × ((x y : Applied) → IsFull g.nodes x → IsFull g.nodes y → AssertsWithData a g s x y h t → Asserts g x y h × CarriesTo a g s h t)
    × ((i : ℕ) → i < length g.nodes → (v : D) → MergesInto a g s i v h t → (h ≡ g) × CarriesTo a g s h t)

-- data can go along with each write, in the graph to which this leads: so of each there is data to which it is carried
abbrev pub DataCanFollowWrites : Type 0 → Type 0
DataCanFollowWrites D =
    (a : Analysis D) → IsMerge D a → (g : State) (s : DataPart D) → RestsWithData a g s → (h : State) →
    ((c : DTerm) → IsNew g.nodes c → Adds g c h → (t : DataPart D) × AddsWithData a g s c h t)
    × (AddsNodes g h → (t : DataPart D) × AddsNodesWithData a g s h t)
    × ((x y : Applied) → IsFull g.nodes x → IsFull g.nodes y → Asserts g x y h → (t : DataPart D) × AssertsWithData a g s x y h t)

-- data at rest is carried to itself, and what is carried can be carried on
abbrev pub CarryingGoesOn : Type 0 → Type 0
CarryingGoesOn D =
    (a : Analysis D) → IsMerge D a → (g : State) (s : DataPart D) → RestsWithData a g s →
    CarriesTo a g s g s
    × ((h k : State) (t u : DataPart D) → GoesOn g h → CarriesTo a g s h t → CarriesTo a h t k u → CarriesTo a g s k u)

-- all these laws
pub record CarryLaws (D : Type 0) (is_known : DTerm → Type 0) : Type 0 where
  pub carried_data_is_kept : CarriedDataIsKept D is_known
  pub carried_data_comes_to_rest : CarriedDataComesToRest D is_known
  pub steps_are_carried : StepsAreCarried D
  pub data_can_follow_writes : DataCanFollowWrites D
  pub carrying_goes_on : CarryingGoesOn D
