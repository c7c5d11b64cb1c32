-- What is found where a pattern is matched against the classes of a graph.
--     AreValidValues g s     each value is a valid id of the graph
--     FindsAll g p found     the answers are what a search finds, over all filed nodes, where the matcher is run at each live class: one for each state
--                            in which it finds the pattern, class by class
--     FindsAllAt g c p found   the same where it is run at the class c
--     HasAllSlots g          no class has dropped a slot
--     IsFoundUpTo g p found σ   σ is found, up to what finds alike and one renaming that leaves the pattern's slots
--     FindsEach g p found    where no class has dropped a slot, each substitution that is looked up is found so
--     FindsEachAt g c p found   the same of those that are looked up as ids of the class c
--     FindsAllOf, FindsEachOf, FindsLookedUp   the same of a pattern of a language, and that each answer is looked up
--     FindsAllAtOf, FindsEachAtOf, FindsLookedUpAt   the same at a class
--     HasWideRow g           a filed node has too many places and children
--     AreFoundValid g found  each answer has valid values
use Rattle.std.specs.Prelude.{◌≡◌, ◌↔◌, ◌<◌, ◌≤◌, ◌+◌, ℕ, List, length, Contains, Some}
use Rattle.slotted_theory.specs.Renaming.{Bijection}
use Rattle.slotted_model.specs.Applied.{Applied, renamed_id}
use Rattle.slotted_model.specs.Classes.{canonical_slots}
use Rattle.slotted_slots.specs.Table.{slot_limit}
use Rattle.slotted_model.specs.Cost.{child_count}
use Rattle.slotted_model.specs.State.{Row, State}
use Rattle.slotted_model_rules.specs.Complete.{HasOwnBinders}
use Rattle.slotted_model_rules.specs.Conditions.{Values}
use Rattle.slotted_model_rules.specs.Matcher.{EachSlot}
use Rattle.slotted_model_rules.specs.Patterns.{Pattern, EachVariable}
use Rattle.slotted_model_rules.specs.Rules.{Searches, valued}
use Rattle.slotted_operations.specs.Canonical.{place_count}
use Rattle.slotted_operations.specs.Graph.{Graph}
use Rattle.slotted_operations.specs.Image.{found_id}
use Rattle.slotted_operations.specs.ValidIds.{IsValidId, slots_left}
use Rattle.slotted_graph.specs.PatternLookUps.{IsLookedUpAt, IsLookedUpLive, look_up_pattern}
use Rattle.slotted_patterns.specs.Tree.{PatternTree}
use Rattle.slotted_rule_patterns.specs.PatternCode.{pattern_in}
use Rattle.slotted_matching.specs.Found.{AreReadInTurn, AreReadings}
use Rattle.slotted_graph.specs.States.{IsStateOf}

abbrev pub AreValidValues : Graph → Values → Type 0
AreValidValues g s = (p : List ℕ × Applied) → Contains s p → IsValidId g p.1

-- just the filed nodes of the graph are gone through
pub record FindsAll (g : Graph) (p : Pattern) (found : List Values) : Type 0 where
  pub state : State
  pub is_state : IsStateOf g state
  pub order : List Row
  pub rows : (r : Row) → Contains state.rows r ↔ Contains order r
  pub searches : Searches state order p found
  pub in_turn : AreReadInTurn state order p found

pub record FindsAllAt (g : Graph) (c : ℕ) (p : Pattern) (found : List Values) : Type 0 where
  pub state : State
  pub is_state : IsStateOf g state
  pub order : List Row
  pub rows : (r : Row) → Contains state.rows r ↔ Contains order r
  pub readings : AreReadings state order p c found

abbrev pub HasAllSlots : Graph → Type 0
HasAllSlots g = (c : ℕ) → c < length g.image.canonical → slots_left g.image c ≡ canonical_slots g.image.canonical c

pub record IsFoundUpTo (g : Graph) (p : Pattern) (found : List Values) (σ : List ℕ → Applied) : Type 0 where
  pub values : Values
  pub is_found : Contains found values
  pub names : Bijection
  pub slots : EachSlot (λ t. names.to t ≡ t) p
  pub each : EachVariable (λ v. found_id g.image (valued values v) ≡ renamed_id names.to (found_id g.image (σ v))) p

-- if each binder of the pattern has a name of its own, which stands in its scope alone, in values too
abbrev pub FindsEach : Graph → Pattern → List Values → Type 0
FindsEach g p found = HasAllSlots g → (σ : List ℕ → Applied) → EachVariable (λ v. IsValidId g (σ v)) p → HasOwnBinders σ p → (x : Applied) →
    look_up_pattern g (λ y. y) σ p ≡ Some x → IsFoundUpTo g p found σ

-- the same of those that are looked up as ids of a class
abbrev pub FindsEachAt : Graph → ℕ → Pattern → List Values → Type 0
FindsEachAt g c p found = HasAllSlots g → (σ : List ℕ → Applied) → EachVariable (λ v. IsValidId g (σ v)) p → HasOwnBinders σ p → (x : Applied) →
    look_up_pattern g (λ y. y) σ p ≡ Some x → x.0 ≡ c → IsFoundUpTo g p found σ

-- the same of a pattern of a language, where it is whole

abbrev pub FindsAllOf : Graph → PatternTree → List Values → Type 0
FindsAllOf g t found = (p : Pattern) → pattern_in t ≡ Some p → FindsAll g p found

abbrev pub FindsEachOf : Graph → PatternTree → List Values → Type 0
FindsEachOf g t found = (p : Pattern) → pattern_in t ≡ Some p → FindsEach g p found

abbrev pub FindsLookedUp : Graph → PatternTree → List Values → Type 0
FindsLookedUp g t found = (p : Pattern) → pattern_in t ≡ Some p → (s : Values) → Contains found s → IsLookedUpLive g s p

-- at one class

abbrev pub FindsAllAtOf : Graph → ℕ → PatternTree → List Values → Type 0
FindsAllAtOf g c t found = (p : Pattern) → pattern_in t ≡ Some p → FindsAllAt g c p found

abbrev pub FindsEachAtOf : Graph → ℕ → PatternTree → List Values → Type 0
FindsEachAtOf g c t found = (p : Pattern) → pattern_in t ≡ Some p → FindsEachAt g c p found

abbrev pub FindsLookedUpAt : Graph → ℕ → PatternTree → List Values → Type 0
FindsLookedUpAt g c t found = (p : Pattern) → pattern_in t ≡ Some p → (s : Values) → Contains found s → IsLookedUpAt g c s p

-- a filed node has as many places and children as there are numeric slots, or more
abbrev pub HasWideRow : Graph → Type 0
HasWideRow g = (r : Row) × Contains g.filed r × (slot_limit ≤ place_count r.shape + child_count r.shape.args)

abbrev pub AreFoundValid : Graph → List Values → Type 0
AreFoundValid g found = (s : Values) → Contains found s → AreValidValues g s
