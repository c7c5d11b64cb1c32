-- What loops over rules keep.
--     HasSearched    some rules were searched, one after another, and what they found can be applied
--     HasApplied     the rules `before` were applied to the first of what was found, and the rules `after` can be to what is left
--     HasAppliedSome    one rule was applied to so many of its answers
--     HasDone        as `HasApplied`, and what each apply did
use Rattle.std.specs.Prelude.{◌≡◌, ◌++◌, ◌<◌, ◌≤◌, ℕ, List, [], Bool, false, map, slice_index_or, take}
use Rattle.slotted_model_rules.specs.Conditions.{Values}
use Rattle.slotted_patterns.specs.Tree.{PatternTree}
use Rattle.slotted_graph.specs.States.{IsGraph}
use Rattle.slotted_rules.specs.Rewriting.{AppliesEach, AreFromRule, IsSettled}
use Rattle.slotted_model_rules.specs.Runners.{AppliesAll, SearchesAll}
use Rattle.slotted_operations.specs.Graph.{Graph}
use Rattle.slotted_graph.specs.Extension.{ExtendsTo}
use Rattle.slotted_rules.specs.Applying.{CanApplyAll}

pub record HasSearched {R F : Type 0} (searches : R → Graph → F → Graph → Type 0) (can : R → F → Graph → Type 0) (rules : List R) (g : Graph) (found : List F) (h : Graph) : Type 0 where
  pub well : h.failed ≡ false
  pub extends : ExtendsTo g h
  pub searched : SearchesAll searches rules g found h
  pub can_apply : CanApplyAll can rules found h

pub record HasApplied {R F : Type 0} (applies : R → F → Graph → Graph → Type 0) (can : R → F → Graph → Type 0) (before after : List R) (founds left : List F) (g h : Graph) : Type 0 where
  pub well : h.failed ≡ false
  pub extends : ExtendsTo g h
  pub done : List F
  pub whole : founds ≡ done ++ left
  pub applied : AppliesAll applies before done g h
  pub can_apply : CanApplyAll can after left h

-- the first i answers are settled, n of them united what was not found equal, and each new explicit entry comes from the rule
pub record HasAppliedSome (holds : Values → Graph → Bool → Type 0) (p q : PatternTree) (name : List ℕ) (found : List Values) (i n : ℕ) (g h : Graph) : Type 0 where
  pub graph : IsGraph h
  pub extends : ExtendsTo g h
  pub settled : (j : ℕ) → j < i → IsSettled holds p q g h (slice_index_or found j [])
  pub origin : AreFromRule holds p q name found g h
  pub within : n ≤ i
  pub in_turn : AppliesEach holds p q name (take i found) n g h

-- as `HasApplied`, where an apply says more of what it did: what was found is the key of that
pub record HasDone {R F K : Type 0} (key : K → F) (applies : R → K → Graph → Graph → Type 0) (can : R → F → Graph → Type 0) (before after : List R) (founds left : List F) (done : List K) (g h : Graph) : Type 0 where
  pub well : h.failed ≡ false
  pub extends : ExtendsTo g h
  pub whole : founds ≡ map key done ++ left
  pub applied : AppliesAll applies before done g h
  pub can_apply : CanApplyAll can after left h
