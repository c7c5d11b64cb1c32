-- What was found for a pattern: for each answer an id of each variable.
--     name_order          names of variables by their bytes
--     AscendingNames vs   the names ascend, so that none stands twice
--     answers_over vs ids n    n answers, each with the next ids for the variables
--     AreWhole vs ids n   the names ascend, and there are just as many ids as n answers take
--     id_in s k           the id of the variable at a place of an answer
use Rattle.std.specs.Prelude.{◌≡◌, ◌*◌, ℕ, zero, suc, List, [], ◌∷◌, length, take, drop, slice_index_or}
use Rattle.std.specs.List.{zip}
use Rattle.std.specs.List.Sorted.{IsStrictlySortedBy}
use Rattle.std.specs.Ordering.{nat_cmp}
use Rattle.std.specs.declared.cmp.Ordering.{Ordering}
use Rattle.std.specs.Cmp.Lexicographic.{slice_cmp}
use Rattle.slotted_model.specs.Applied.{Applied}
use Rattle.slotted_model_rules.specs.Conditions.{Values}

abbrev pub name_order : List ℕ → List ℕ → Ordering
name_order = slice_cmp nat_cmp

abbrev pub AscendingNames : List (List ℕ) → Type 0
AscendingNames vs = IsStrictlySortedBy name_order vs

abbrev pub answers_over : List (List ℕ) → List Applied → ℕ → List Values
answers_over vs ids zero = []
answers_over vs ids (suc n) = zip vs (take (length vs) ids) ∷ answers_over vs (drop (length vs) ids) n

-- the names ascend, and so many ids are these answers
pub record AreWhole (vs : List (List ℕ)) (ids : List Applied) (n : ℕ) : Type 0 where
  pub ascending : AscendingNames vs
  pub count : length ids ≡ n * length vs

abbrev pub id_in : Values → ℕ → Applied
id_in s k = (slice_index_or s k ([], (0, []))).1
