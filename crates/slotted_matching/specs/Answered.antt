-- The machine's answers as substitutions.
--     NumbersByName vs es        es has each variable with its number, in the order of the names
--     HasName s y                y is a name of a value of s
--     IsNamedAnswer k vs t u s x      s reads the answer x, with slots that the table did not know but for those that x pairs
--     InTurn P t u ss xs         P holds of the members in turn, each with the tables before and after it
--     AreWholeAnswers k vs xs    the answers have whole ids for the variables
--     PairSlotsOf slots x, PairSlotsIn slots xs    slots in pairs are among these
--     HasWholeIds k x order      the values at these numbers are whole ids
--     HasDifferentPairs x        pairs are one to one
--     ids_at, AddsIds            the ids of an answer, and that they were added
--     number_count xs            how many numbers the values of all answers have
use Rattle.std.specs.Prelude.{◌≡◌, ◌⊎◌, ◌↔◌, ◌<◌, ◌+◌, ℕ, List, [], ◌∷◌, length, map, Contains, false, IsTrue, slice_index_or, ◌++◌, IsSome}
use Rattle.std.specs.List.{flat_map}
use Rattle.slotted_theory.specs.FiniteMaps.{value_of}
use Rattle.slotted_slots.specs.Table.{Table, KnowsMore, is_known}
use Rattle.slotted_model.specs.Applied.{Applied, values}
use Rattle.slotted_model.specs.Correspondence.{AllDifferent}
use Rattle.slotted_model.specs.Rest.{AtRest, IsValidIn}
use Rattle.slotted_model_rules.specs.Conditions.{Values}
use Rattle.slotted_match_machine.specs.Machine.{Answer, Occurrence, no_occurrence}
use Rattle.slotted_match_machine.specs.Readings.{ReadsAnswer, IsWholeAnswer, IsWholeId, read_id}
use Rattle.slotted_classes.specs.Kept.{Kept}
use Rattle.slotted_hashcons.specs.FiledRows.{Rows}
use Rattle.slotted_classes.specs.StateOf.{state_of}
use Rattle.slotted_hashcons.specs.WellFiled.{state_in}
use Rattle.slotted_matching.specs.Matches.{AscendingNames}
use Rattle.slotted_matching.specs.Naming.{IsNaming, slot_in}

-- no variable stands twice
abbrev pub StandOnce : List (List ℕ) → Type 0
StandOnce vs = (i j : ℕ) → i < length vs → j < length vs → slice_index_or vs i [] ≡ slice_index_or vs j [] → i ≡ j

pub record NumbersByName (vs : List (List ℕ)) (es : List (List ℕ × ℕ)) : Type 0 where
  pub ascending : AscendingNames (map (λ e. e.0) es)
  pub each : (e : List ℕ × ℕ) → Contains es e → (e.1 < length vs) × (slice_index_or vs e.1 [] ≡ e.0)
  pub all : (k : ℕ) → k < length vs → Contains es (slice_index_or vs k [], k)

abbrev pub HasName : Values → ℕ → Type 0
HasName s y = (e : List ℕ × Applied) × Contains s e × Contains (values e.1.1) y

-- the variables ascend, and each has its value; a name that was known is a slot that x pairs with a number
pub record IsNamedAnswer (k : Kept) (vs : List (List ℕ)) (t u : Table) (s : Values) (x : Answer) : Type 0 where
  pub ascending : AscendingNames (map (λ e. e.0) s)
  pub variables : (v : List ℕ) → Contains vs v ↔ Contains (map (λ e. e.0) s) v
  pub reads : (r : Rows) → ReadsAnswer (state_in k r) vs s x
  pub valid : (r : Rows) → AtRest (state_in k r) → (e : List ℕ × Applied) → Contains s e → IsValidIn (state_in k r) e.1
  pub names : (y : ℕ) → HasName s y → Contains (values x.pairs) y ⊎ (is_known t y ≡ false)
  pub known : (y : ℕ) → HasName s y → IsTrue (is_known u y)
  pub more : KnowsMore t u

abbrev pub InTurn : (Table → Table → Values → Answer → Type 0) → Table → Table → List Values → List Answer → Type 0
InTurn P t u [] [] = t ≡ u
InTurn P t u [] (x ∷ xs) = ⊥
InTurn P t u (s ∷ ss) [] = ⊥
InTurn P t u (s ∷ ss) (x ∷ xs) = (w : Table) × P t w s x × InTurn P w u ss xs

abbrev pub AreWholeAnswers : Kept → List (List ℕ) → List Answer → Type 0
AreWholeAnswers k vs xs = (r : Rows) × ((x : Answer) → Contains xs x → IsWholeAnswer (state_in k r) vs x)

-- all slots in pairs are among these
abbrev pub PairSlotsOf : List ℕ → Answer → Type 0
PairSlotsOf slots x = (y : ℕ) → Contains (values x.pairs) y → Contains slots y

abbrev pub PairSlotsIn : List ℕ → List Answer → Type 0
PairSlotsIn slots xs = (x : Answer) → Contains xs x → PairSlotsOf slots x

-- the variables of these numbers have whole ids
abbrev pub HasWholeIds : Kept → Answer → List ℕ → Type 0
HasWholeIds k x order = (i : ℕ) → Contains order i → (i < length x.values) × IsWholeId (state_of k) (slice_index_or x.values i no_occurrence)

-- no number and no slot is paired twice
pub record HasDifferentPairs (x : Answer) : Type 0 where
  pub numbers : AllDifferent (map (λ p. p.0) x.pairs)
  pub slots : AllDifferent (map (λ p. p.1) x.pairs)

-- each of the numbers as an id, by the names of its numbers
abbrev pub ids_at : Kept → List (ℕ × ℕ) → List ℕ → List Occurrence → List Applied
ids_at k names order xs = map (λ i. read_id (state_of k) (slot_in names) (slice_index_or xs i no_occurrence)) order

-- the ids of one more answer, by these names
pub record AddsIds (k : Kept) (order : List ℕ) (t u : Table) (x : Answer) (old new : List Applied) : Type 0 where
  pub names : List (ℕ × ℕ)
  pub ids : new ≡ old ++ ids_at k names order x.values
  pub naming : IsNaming t x.pairs u names
  pub covers : (n : ℕ) → Contains (flat_map (λ (o : Occurrence). o.names) x.values) n → IsSome (value_of names n)

abbrev pub number_count : List Answer → ℕ
number_count [] = 0
number_count (x ∷ xs) = length (flat_map (λ (o : Occurrence). o.names) x.values) + number_count xs
