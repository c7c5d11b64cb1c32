-- Each law of conditions held against one substitution, in which ?x has the name 8 and ?y has no value, and two graphs.
use Rattle.std.proofs.Common.{◌≡◌, ◌⊎◌, ℕ, [], ◌∷◌, Some, None, true, false, refl, sym, ◌∙◌, ap, inl, inr}
use Rattle.std.specs.Prelude.{Contains}
use Rattle.slotted_lists.proofs.Contained.{contains_cases, Contains-nil}
use Rattle.slotted_model.specs.Sessions.{nothing}
use Rattle.slotted_model.proofs.Examples.CongruenceExample.{twice, rebuilt}
use Rattle.slotted_model_rules.specs.Conditions.{Values, Condition, always, either, each_of, opposite, holds, asked}
use Rattle.slotted_model_rules.proofs.Laws.{condition-laws}
use Rattle.slotted_model_rules.proofs.Examples.RuleExamples.{one_value, free_in_x, free_in_y, apart}

-- always is yes
always_yes : holds always one_value nothing ≡ Some true
always_yes = condition-laws.truth_tables.always_holds one_value nothing

-- the slot 8 stands in the value of ?x, and the slot 7 does not
stands_in_value : ((holds (free_in_x 8) one_value nothing ≡ Some false) × Contains {X = ℕ} (8 ∷ []) 8)
    ⊎ ((holds (free_in_x 8) one_value nothing ≡ Some true) × (¬ Contains {X = ℕ} (8 ∷ []) 8))
stands_in_value = condition-laws.truth_tables.free_slots 8 (120 ∷ []) one_value nothing (0, (0, 8) ∷ []) refl

stands_not_in_value : ((holds (free_in_x 7) one_value nothing ≡ Some false) × Contains {X = ℕ} (8 ∷ []) 7)
    ⊎ ((holds (free_in_x 7) one_value nothing ≡ Some true) × (¬ Contains {X = ℕ} (8 ∷ []) 7))
stands_not_in_value = condition-laws.truth_tables.free_slots 7 (120 ∷ []) one_value nothing (0, (0, 8) ∷ []) refl

-- where there is no value it is refused
refused_without_value : holds free_in_y one_value nothing ≡ None
refused_without_value = condition-laws.truth_tables.missing_values 7 (121 ∷ []) one_value nothing refl

-- the first of two is yes: the second, which would be refused, is not asked
first_is_yes : (holds (either (free_in_x 7) free_in_y) one_value nothing ≡ Some true)
    × (asked (either (free_in_x 7) free_in_y) one_value nothing ≡ free_in_x 7 ∷ [])
first_is_yes = condition-laws.truth_tables.either_yes (free_in_x 7) free_in_y one_value nothing refl

-- the first is no: the second is asked, and the refusal is handed on
first_is_no : (holds (either (free_in_x 8) free_in_y) one_value nothing ≡ None)
    × (asked (either (free_in_x 8) free_in_y) one_value nothing ≡ free_in_x 8 ∷ free_in_y ∷ [])
first_is_no = condition-laws.truth_tables.either_no (free_in_x 8) free_in_y one_value nothing refl

-- the first is refused: the second, which is yes, is not asked
first_is_refused : (holds (either free_in_y (free_in_x 7)) one_value nothing ≡ None)
    × (asked (either free_in_y (free_in_x 7)) one_value nothing ≡ free_in_y ∷ [])
first_is_refused = condition-laws.truth_tables.either_refused free_in_y (free_in_x 7) one_value nothing refl

-- where both are to hold, a yes leaves it to the second
both_to_hold : (holds (each_of (free_in_x 7) free_in_y) one_value nothing ≡ None)
    × (asked (each_of (free_in_x 7) free_in_y) one_value nothing ≡ free_in_x 7 ∷ free_in_y ∷ [])
both_to_hold = condition-laws.truth_tables.each_yes (free_in_x 7) free_in_y one_value nothing refl

-- and a no decides
one_does_not_hold : (holds (each_of (free_in_x 8) free_in_y) one_value nothing ≡ Some false)
    × (asked (each_of (free_in_x 8) free_in_y) one_value nothing ≡ free_in_x 8 ∷ [])
one_does_not_hold = condition-laws.truth_tables.each_no (free_in_x 8) free_in_y one_value nothing refl

-- as a refusal does, though the second is no
one_is_refused : (holds (each_of free_in_y (free_in_x 8)) one_value nothing ≡ None)
    × (asked (each_of free_in_y (free_in_x 8)) one_value nothing ≡ free_in_y ∷ [])
one_is_refused = condition-laws.truth_tables.each_refused free_in_y (free_in_x 8) one_value nothing refl

-- the opposite of a no is yes, and the opposite of a refusal is refused
turned_over : (holds (opposite (free_in_x 8)) one_value nothing ≡ Some true)
    × (asked (opposite (free_in_x 8)) one_value nothing ≡ free_in_x 8 ∷ [])
turned_over = condition-laws.truth_tables.opposites (free_in_x 8) one_value nothing

refused_turned_over : (holds (opposite free_in_y) one_value nothing ≡ None)
    × (asked (opposite free_in_y) one_value nothing ≡ free_in_y ∷ [])
refused_turned_over = condition-laws.truth_tables.opposites free_in_y one_value nothing

-- another substitution, in which ?x has the name 6 and ?y a value too, in another graph: what is asked, that the slot 7
-- is free in ?x, answers the same, so all does, although the words a and b are apart in the one graph and not in the
-- other
abbrev two_values : Values
two_values = ((120 ∷ []), (0, (0, 6) ∷ [])) ∷ ((121 ∷ []), (0, (0, 7) ∷ [])) ∷ []

asked_alike : (holds (either (free_in_x 7) (each_of free_in_y apart)) one_value twice
    ≡ holds (either (free_in_x 7) (each_of free_in_y apart)) two_values rebuilt)
    × (asked (either (free_in_x 7) (each_of free_in_y apart)) one_value twice
    ≡ asked (either (free_in_x 7) (each_of free_in_y apart)) two_values rebuilt)
asked_alike =
    condition-laws.asked_decides (either (free_in_x 7) (each_of free_in_y apart)) one_value two_values twice rebuilt
    same
  where
    same : (x : Condition) → Contains (free_in_x 7 ∷ []) x → holds x one_value twice ≡ holds x two_values rebuilt
    same x c = elim (contains_cases (free_in_x 7) [] x c) [
      | inl e ↦
          ap (λ k. holds k one_value twice) e ∙ sym (ap (λ k. holds k two_values rebuilt) e)
      | inr k ↦ absurd (Contains-nil x k)
    ]

-- a condition without a test of the caller's own is yes in both graphs
stays_in_graphs : holds (each_of (free_in_x 7) (opposite (free_in_x 8))) one_value twice
    ≡ holds (each_of (free_in_x 7) (opposite (free_in_x 8))) one_value rebuilt
stays_in_graphs =
    condition-laws.conditions_of_values_stay (each_of (free_in_x 7) (opposite (free_in_x 8))) (tt, tt) one_value twice
    rebuilt
