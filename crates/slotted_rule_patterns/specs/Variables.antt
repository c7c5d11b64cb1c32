-- The variables of a pattern, and whether something is to be replaced in it.
--     has_substitution t     a substitution stands in the pattern
--     variables_of t         the names of its variables from the left, each as often as it stands; of a substitution those of the body come
--                            first, then those of the part to be replaced, and then those of the value
--     has_variable t v       a variable of this name stands in it
--     first_outside known t  the first variable that is not known
--     first_missing t s      the first variable that has no value
--     first_lacking t u      the first variable of t that does not stand in u
use Rattle.std.specs.Prelude.{ℕ, List, [], ◌∷◌, ◌++◌, Bool, true, false, ◌||◌, not, Option, is_some}
use Rattle.std.specs.List.{find, list_any}
use Rattle.std.specs.Str.{bytes_eq}
use Rattle.slotted_patterns.specs.Tree.{PatternTree, enode, pvar, substitution, PatternRow, no_more, one_more}
use Rattle.slotted_model_rules.specs.Conditions.{Values}
use Rattle.slotted_model_rules.specs.Matcher.{value_at}

abbrev mutual
  pub has_substitution : PatternTree → Bool
  has_substitution (enode f row) = have_substitution row
  has_substitution (pvar v) = false
  has_substitution (substitution b x t) = true

  pub have_substitution : PatternRow → Bool
  have_substitution no_more = false
  have_substitution (one_more p rest) = has_substitution p || have_substitution rest

abbrev mutual
  pub variables_of : PatternTree → List (List ℕ)
  variables_of (enode f row) = variables_of_row row
  variables_of (pvar v) = v ∷ []
  variables_of (substitution b x t) = variables_of b ++ (variables_of x ++ variables_of t)

  pub variables_of_row : PatternRow → List (List ℕ)
  variables_of_row no_more = []
  variables_of_row (one_more p rest) = variables_of p ++ variables_of_row rest

abbrev pub has_variable : PatternTree → List ℕ → Bool
has_variable t v = list_any (bytes_eq v) (variables_of t)

abbrev pub first_outside : (List ℕ → Bool) → PatternTree → Option (List ℕ)
first_outside known t = find (λ v. not (known v)) (variables_of t)

abbrev pub has_value : Values → List ℕ → Bool
has_value s v = is_some (value_at s v)

abbrev pub first_missing : PatternTree → Values → Option (List ℕ)
first_missing t s = first_outside (has_value s) t

abbrev pub first_lacking : PatternTree → PatternTree → Option (List ℕ)
first_lacking t u = first_outside (has_variable u) t
