-- Conditions of rules: what they answer for a substitution in a graph, and what is asked for it.
--     Values            a substitution: variables with their ids
--     Condition         one of five kinds, or one of the caller's own
--     holds c s g       yes or no, or nothing where it is refused
--     asked c s g       the conditions without parts that are asked for this, in order
--     IsOfValues c      no condition of the caller's own takes part: the graph is not asked
use Rattle.std.specs.Prelude.{ℕ, List, [], ◌∷◌, ◌++◌, Option, Some, None, option_map, option_and_then, Bool, true}
use Rattle.std.specs.Prelude.{false, cond, not}
use Rattle.slotted_model.specs.Applied.{Applied, values}
use Rattle.slotted_model.specs.Correspondence.{has_slot}
use Rattle.slotted_model.specs.State.{State}
use Rattle.slotted_model_rules.specs.Matcher.{value_at}

-- variables with their ids
abbrev pub Values : Type 0
Values = List (List ℕ × Applied)

-- always; the slot does not stand in the variable's value; the first or the second; the first and the second; not this
-- one; a test of the caller's own
pub data Condition : Type 0 where
  always : Condition
  slot_free_in : (slot : ℕ) (v : List ℕ) → Condition
  either : (first second : Condition) → Condition
  each_of : (first second : Condition) → Condition
  opposite : (c : Condition) → Condition
  own : (test : Values → State → Option Bool) → Condition

-- the answer: the second of two is looked at only where the first leaves it open, and a refusal is handed on
abbrev pub holds : Condition → Values → State → Option Bool
holds always s g = Some true
holds (slot_free_in slot v) s g = option_map (λ (a : Applied). not (has_slot (values a.1) slot)) (value_at s v)
holds (either first second) s g = option_and_then (λ b. cond b (Some true) (holds second s g)) (holds first s g)
holds (each_of first second) s g = option_and_then (λ b. cond b (holds second s g) (Some false)) (holds first s g)
holds (opposite c) s g = option_map not (holds c s g)
holds (own test) s g = test s g

-- these, where the answer was yes; where it was no
abbrev pub after_yes : Option Bool → List Condition → List Condition
after_yes None next = []
after_yes (Some b) next = cond b next []

abbrev pub after_no : Option Bool → List Condition → List Condition
after_no None next = []
after_no (Some b) next = cond b [] next

-- what is asked
abbrev pub asked : Condition → Values → State → List Condition
asked always s g = always ∷ []
asked (slot_free_in slot v) s g = slot_free_in slot v ∷ []
asked (either first second) s g = asked first s g ++ after_no (holds first s g) (asked second s g)
asked (each_of first second) s g = asked first s g ++ after_yes (holds first s g) (asked second s g)
asked (opposite c) s g = asked c s g
asked (own test) s g = own test ∷ []

-- the graph is not asked
abbrev pub IsOfValues : Condition → Type 0
IsOfValues always = Unit {0}
IsOfValues (slot_free_in slot v) = Unit {0}
IsOfValues (either first second) = IsOfValues first × IsOfValues second
IsOfValues (each_of first second) = IsOfValues first × IsOfValues second
IsOfValues (opposite c) = IsOfValues c
IsOfValues (own test) = ⊥
