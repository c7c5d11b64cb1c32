-- What is known where no variable is missing, and what a missing one is.
use Rattle.std.proofs.Common.{◌≡◌, ℕ, List, [], ◌∷◌, Bool, true, false, refl, sym, ap, ◌∙◌}
use Rattle.std.specs.Prelude.{Option, Some, None, is_some, not, cond}
use Rattle.std.specs.List.{find, All, AllByRecursion}
use Rattle.std.proofs.lemmas.List.Elements.{All-from_recursion, recursion_from_All, All-contains}
use Rattle.std.proofs.lemmas.Map.Views.{Contains-from_any}
use Rattle.std.proofs.lemmas.Slice.Eq.{bytes_eq-Decides}
use Rattle.slotted_theory.specs.Decided.{numbers_eq}
use Rattle.slotted_model.specs.Applied.{Applied}
use Rattle.slotted_patterns.specs.Tree.{PatternTree}
use Rattle.slotted_model_rules.specs.Conditions.{Values}
use Rattle.slotted_model_rules.specs.Matcher.{value_at}
use Rattle.slotted_model_rules.specs.Patterns.{Pattern, EachVariable}
use Rattle.slotted_model_rules.specs.Rules.{id_or_none, valued}
use Rattle.slotted_rule_patterns.specs.PatternCode.{pattern_in}
use Rattle.slotted_rule_patterns.specs.Variables.{variables_of, has_variable, has_value, first_outside, first_missing, first_lacking}
use Rattle.slotted_rule_patterns.proofs.EachVariable.{each-variable}

module _ (known : List ℕ → Bool) where
  passed_over : (b : Bool) (v : List ℕ) (o : Option (List ℕ)) → cond (not b) (Some v) o ≡ None → (b ≡ true) × (o ≡ None)
  passed_over true v o e = (refl, e)
  passed_over false v o e = absurd (cc)

  all_known : (vs : List (List ℕ)) → find (λ v. not (known v)) vs ≡ None → AllByRecursion (λ v. known v ≡ true) vs
  all_known [] e = tt
  all_known (v ∷ vs) e =
      let h = passed_over (known v) v (find (λ v. not (known v)) vs) e in
      (h.0, all_known vs h.1)

  none_unknown : (vs : List (List ℕ)) → AllByRecursion (λ v. known v ≡ true) vs → find (λ v. not (known v)) vs ≡ None
  none_unknown [] h = refl
  none_unknown (v ∷ vs) h = ap (λ b. cond (not b) (Some v) (find (λ v. not (known v)) vs)) h.0 ∙ none_unknown vs h.1

  here : (b : Bool) (v w : List ℕ) (o : Option (List ℕ)) → known v ≡ b → cond (not b) (Some v) o ≡ Some w → (o ≡ Some w → known w ≡ false) → known w ≡ false
  here true v w o k e later = later e
  here false v w o k e later = let same : v ≡ w = cc in ap known (sym same) ∙ k

  first_unknown : (vs : List (List ℕ)) (w : List ℕ) → find (λ v. not (known v)) vs ≡ Some w → known w ≡ false
  first_unknown [] w e = absurd (cc)
  first_unknown (v ∷ vs) w e = here (known v) v w (find (λ v. not (known v)) vs) refl e (first_unknown vs w)

  -- each variable is known exactly if none is outside
  pub known-none_outside : (t : PatternTree) → first_outside known t ≡ None → All (λ v. known v ≡ true) (variables_of t)
  known-none_outside t e = All-from_recursion (λ v. known v ≡ true) (variables_of t) (all_known (variables_of t) e)

  pub none_outside-known : (t : PatternTree) → All (λ v. known v ≡ true) (variables_of t) → first_outside known t ≡ None
  none_outside-known t h = none_unknown (variables_of t) (recursion_from_All (λ v. known v ≡ true) (variables_of t) h)

  pub outside-unknown : (t : PatternTree) (v : List ℕ) → first_outside known t ≡ Some v → known v ≡ false
  outside-unknown t v e = first_unknown (variables_of t) v e

module _ (P : Applied → Type 0) where
  value_holds : (b : Bool) (a : Applied) (o : Option Applied) → P a → (is_some o ≡ true → P (id_or_none o)) → is_some (cond b (Some a) o) ≡ true → P (id_or_none (cond b (Some a) o))
  value_holds true a o h k some = h
  value_holds false a o h k some = k some

  valued_holds : (s : Values) (v : List ℕ) → AllByRecursion (λ e. P e.1) s → has_value s v ≡ true → P (valued s v)
  valued_holds [] v h some = absurd (cc)
  valued_holds (e ∷ s) v h some = value_holds (numbers_eq e.0 v) e.1 (value_at s v) h.0 (valued_holds s v h.1) some

  -- what holds of each entry holds of each variable that has a value
  pub entry-valued : (s : Values) (v : List ℕ) → All (λ e. P e.1) s → has_value s v ≡ true → P (valued s v)
  entry-valued s v h some = valued_holds s v (recursion_from_All (λ e. P e.1) s h) some

  -- and of each variable of a pattern of which none is missing
  pub each-valued : (s : Values) (t : PatternTree) (p : Pattern) → All (λ e. P e.1) s → first_missing t s ≡ None → pattern_in t ≡ Some p → EachVariable (λ v. P (valued s v)) p
  each-valued s t p h none e =
      each-variable (λ v. P (valued s v)) t p e (λ k d lt. entry-valued s _ h (known-none_outside (has_value s) t none k d lt))

-- what has a value for each variable of the left has one for each of the right, which lacks none of them
pub missing-lacking : (right left : PatternTree) (s : Values) → first_lacking right left ≡ None → first_missing left s ≡ None → first_missing right s ≡ None
missing-lacking right left s lacks none =
    none_outside-known (has_value s) right (λ k d lt.
    let among = known-none_outside (has_variable left) right lacks k d lt in
    All-contains (λ v. has_value s v ≡ true) (variables_of left) _ (known-none_outside (has_value s) left none)
    (Contains-from_any (λ v w. (bytes_eq-Decides v w).0) _ (variables_of left) among))
