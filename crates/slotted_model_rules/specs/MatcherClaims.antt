-- The laws of the matcher, all owed by `matcher_laws_hold` in src/matcher.rt.
use Rattle.std.specs.Prelude.{◌≡◌, ℕ, ◌<◌, List, length, Contains, Some}
use Rattle.slotted_theory.specs.Renaming.{Bijection}
use Rattle.slotted_model.specs.Applied.{Applied, values, renamed_id}
use Rattle.slotted_model.specs.Find.{IsLive, find_class, find}
use Rattle.slotted_model.specs.State.{Row, State}
use Rattle.slotted_model.specs.Rest.{IsValidIn, AtRest}
use Rattle.slotted_model_rules.specs.Patterns.{Pattern, EachVariable, look_up_pattern}
use Rattle.slotted_model_rules.specs.Matcher.{MatchState, value_at, Found, EachSlot, class_id, start_at, Reads}
use Rattle.slotted_model_rules.specs.Complete.{HasAllSlots, IsFreeInPattern, HasOwnBinders}

-- at rest, under each reading of a state that was found, the pattern is looked up as the id at which it was found, with the names
-- that are read: so as an id of the same live class
abbrev pub AnswersAreLookedUp : Type 0
AnswersAreLookedUp =
    (g : State) → AtRest g → (order : List Row) (p : Pattern) (st : MatchState) (a : Applied) (outs : List MatchState) →
    Found g order p st a outs → (out : MatchState) → Contains outs out →
    (f : ℕ → ℕ) (σ : List ℕ → Applied) → Reads g f σ out → look_up_pattern g (λ y. y) σ p ≡ Some (renamed_id f (find g.found a))

-- a state that was found has a value for each variable of the pattern
abbrev pub AnswersHaveValues : Type 0
AnswersHaveValues =
    (g : State) (order : List Row) (p : Pattern) (st : MatchState) (a : Applied) (outs : List MatchState) →
    Found g order p st a outs → (out : MatchState) → Contains outs out →
    EachVariable (λ v. (b : Applied) × (value_at out.values v ≡ Some b)) p

-- at rest these values are valid, if the id at which it was found is and those before were
abbrev pub AnswersAreValid : Type 0
AnswersAreValid =
    (g : State) → AtRest g → (order : List Row) (p : Pattern) (st : MatchState) (a : Applied) (outs : List MatchState) →
    Found g order p st a outs → IsValidIn g a →
    ((v : List ℕ) (b : Applied) → value_at st.values v ≡ Some b → IsValidIn g b) → (out : MatchState) → Contains outs out →
    (v : List ℕ) (b : Applied) → value_at out.values v ≡ Some b → IsValidIn g b

-- and keeps what the state from which it was found had
abbrev pub AnswersGoOn : Type 0
AnswersGoOn =
    (g : State) (order : List Row) (p : Pattern) (st : MatchState) (a : Applied) (outs : List MatchState) →
    Found g order p st a outs → (out : MatchState) → Contains outs out →
    ((s t : ℕ) → Contains st.pairs (s, t) → Contains out.pairs (s, t)) ×
    ((v : List ℕ) (b : Applied) → value_at st.values v ≡ Some b → value_at out.values v ≡ Some b)

-- at rest a class under its own slots is a valid id, and finds its own class if it lives
abbrev pub ClassIdsAreValid : Type 0
ClassIdsAreValid = (g : State) → AtRest g → (c : ℕ) → c < length g.nodes → IsValidIn g (class_id g c) ×
    (IsLive g.found c → find_class g.found c ≡ c)

-- at rest the matcher has a run from each state at each valid id: there are new names for each node that it visits
abbrev pub RunsExist : Type 0
RunsExist =
    (g : State) → AtRest g → (order : List Row) → ((r : Row) → Contains order r → Contains g.rows r) →
    (p : Pattern) (st : MatchState) (a : Applied) → IsValidIn g a →
    (outs : List MatchState) × Found g order p st a outs

-- each slot that the pattern names, binders too, has a name of the graph that stands for it: so a reading reads it as itself
abbrev pub SlotsAreNamed : Type 0
SlotsAreNamed =
    (g : State) (order : List Row) (p : Pattern) (st : MatchState) (a : Applied) (outs : List MatchState) →
    Found g order p st a outs → (out : MatchState) → Contains outs out →
    EachSlot (λ t. (s : ℕ) × Contains out.pairs (s, t)) p

-- what is found at a class has a reading
abbrev pub ReadingsExist : Type 0
ReadingsExist =
    (g : State) (order : List Row) (p : Pattern) (c : ℕ) (outs : List MatchState) →
    Found g order p (start_at g c) (class_id g c) outs → (out : MatchState) → Contains outs out →
    (f : ℕ → ℕ) × (σ : List ℕ → Applied) × Reads g f σ out

-- two readings differ, up to what finds alike, by a bijection of names that leaves the slots of the pattern
abbrev pub ReadingsAreRenamed : Type 0
ReadingsAreRenamed =
    (g : State) (out : MatchState) (f h : ℕ → ℕ) (σ τ : List ℕ → Applied) → Reads g f σ out → Reads g h τ out →
    (π : Bijection) × ((s t : ℕ) → Contains out.pairs (s, t) → π.to t ≡ t)
    × ((v : List ℕ) (b : Applied) → value_at out.values v ≡ Some b → find g.found (τ v) ≡ renamed_id π.to (find g.found (σ v)))

-- at rest, where no class has dropped a slot: each substitution of valid ids whose look-up is an id is a reading of a state that is found at the id's class,
-- if each binder of the pattern has a name of its own, which stands in the binder's scope alone, in the values too
abbrev pub MatchesAreFound : Type 0
MatchesAreFound =
    (g : State) → AtRest g → HasAllSlots g → (order : List Row) → ((r : Row) → Contains g.rows r → Contains order r) →
    (σ : List ℕ → Applied) (p : Pattern) → EachVariable (λ v. IsValidIn g (σ v)) p → HasOwnBinders σ p → (x : Applied) →
    look_up_pattern g (λ y. y) σ p ≡ Some x →
    (outs : List MatchState) → Found g order p (start_at g x.0) (class_id g x.0) outs → (out : MatchState) × Contains outs out ×
    (f : ℕ → ℕ) × Reads g f σ out

-- the names of what a pattern is looked up as are free in the pattern or in values
abbrev pub LookedUpNamesAreFree : Type 0
LookedUpNamesAreFree =
    (g : State) → AtRest g → (σ : List ℕ → Applied) (p : Pattern) → EachVariable (λ v. IsValidIn g (σ v)) p → (x : Applied) →
    look_up_pattern g (λ y. y) σ p ≡ Some x →
    (y : ℕ) → Contains (values x.1) y → IsFreeInPattern σ y p

-- all these laws
pub record MatcherLaws : Type 0 where
  pub answers_are_looked_up : AnswersAreLookedUp
  pub answers_have_values : AnswersHaveValues
  pub answers_are_valid : AnswersAreValid
  pub answers_go_on : AnswersGoOn
  pub class_ids_are_valid : ClassIdsAreValid
  pub runs_exist : RunsExist
  pub slots_are_named : SlotsAreNamed
  pub readings_exist : ReadingsExist
  pub readings_are_renamed : ReadingsAreRenamed
  pub matches_are_found : MatchesAreFound
  pub looked_up_names_are_free : LookedUpNamesAreFree
