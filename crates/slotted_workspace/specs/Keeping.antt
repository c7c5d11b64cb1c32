-- What a workspace keeps, and what stays true of it.
--     terms_of kept                     the kept terms
--     space_of form n g kept rules y    what contracts see of a workspace with these parts
--     found_in kept number h            what is kept for the handle h, in the workspace with this number
--     IsKept g k                        the kept id stands for the kept term in the graph g: it lacks no name, and the term can be added
--     IsSane form g kept rules          so it is of each, and each rule can be searched in g, unless the graph has failed
use Rattle.std.specs.Prelude.{◌≡◌, ◌⊎◌, ℕ, List, map, All, Bool, Option, None, Some, IsTrue, if◌then◌else◌, nat_eq, slice_get}
use Rattle.slotted_theory.specs.Term.{Term}
use Rattle.slotted_theory.specs.Nameless.{nameless}
use Rattle.slotted_nodes.specs.Form.{Form}
use Rattle.slotted_terms.specs.Valid.{IsValidTerm}
use Rattle.slotted_model.specs.Classes.{term_of}
use Rattle.slotted_proofs.specs.Equations.{to_applied}
use Rattle.slotted_operations.specs.Graph.{Graph, IsFullId, id_of_term}
use Rattle.slotted_rules.specs.Written.{CanBeSearched}
use Rattle.slotted_rules.specs.declared.rewrite.Rewrite.{Rewrite}
use Rattle.slotted_workspace.specs.Spaces.{Space, rule_of}
use Rattle.slotted_workspace.specs.declared.handle.Handle.{Handle}
use Rattle.slotted_workspace.specs.declared.kept.Kept.{Kept}
use Rattle.slotted_workspace.specs.declared.sparing.RuleCondition.{RuleCondition}

abbrev pub terms_of : {L : Type 0} → List (Kept L) → List Term
terms_of kept = map (λ k. k.term) kept

abbrev pub space_of : {L : Type 0} → (L → Form) → ℕ → Graph → List (Kept L) → List (Rewrite L (RuleCondition L)) → Bool → Space
space_of form n g kept rules sparing = record { number = n; graph = g; terms = terms_of kept; rules = map (rule_of form) rules; sparing = sparing }

abbrev pub found_in : {L : Type 0} → List (Kept L) → ℕ → Handle → Option (Kept L)
found_in kept number h = if nat_eq h.workspace number then slice_get kept h.index else None

pub record IsKept {L : Type 0} (g : Graph) (k : Kept L) : Type 0 where
  pub full : IsFullId g (to_applied k.id)
  pub term : term_of g.image.canonical (to_applied k.id) ≡ nameless k.term
  pub found : id_of_term g k.term ≡ Some (to_applied k.id)
  pub valid : IsValidTerm g.table k.term

abbrev pub IsSane : {L : Type 0} → (L → Form) → Graph → List (Kept L) → List (Rewrite L (RuleCondition L)) → Type 0
IsSane form g kept rules = IsTrue g.failed ⊎ (All (IsKept g) kept × All (CanBeSearched form g.table) rules)
