-- What patterns are looked up as in a graph.
--     look_up_pattern g ρ σ p    the id of a pattern, where σ gives ids to its variables and ρ numbers the names outside
--     IsLookedUpLive g s p       it is that of a live class, for the values s
--     IsLookedUpAt g c s p       it is that of the class c
use Rattle.std.specs.Prelude.{◌≡◌, ℕ, List, Option, Some, None, option_map, option_and_then}
use Rattle.slotted_theory.specs.Nameless.{DArgs, stop, place, scope, extend}
use Rattle.slotted_theory.proofs.Values.{node, child_before}
use Rattle.slotted_model.specs.Applied.{Applied, renamed_id, as_term}
use Rattle.slotted_model.specs.LookUp.{both}
use Rattle.slotted_model_rules.specs.Conditions.{Values}
use Rattle.slotted_model_rules.specs.Patterns.{Pattern, PatternArgs, pattern_node, variable, replacing, no_argument, own_name, child_pattern, binding}
use Rattle.slotted_model_rules.specs.Rules.{valued}
use Rattle.slotted_operations.specs.Causes.{class_found}
use Rattle.slotted_operations.specs.Graph.{Graph}
use Rattle.slotted_operations.specs.Image.{found_id}
use Rattle.slotted_operations.specs.LookUp.{look_up_nameless}

abbrev mutual
  -- child by child, and then the node over the answers; a variable is looked up as what its value finds, and what is to be replaced as nothing
  pub look_up_pattern : Graph → (ℕ → ℕ) → (List ℕ → Applied) → Pattern → Option Applied
  look_up_pattern g ρ σ (pattern_node op payloads args) = option_and_then (λ found. look_up_nameless g (node op payloads found)) (look_up_arguments g ρ σ args)
  look_up_pattern g ρ σ (variable v) = Some (found_id g.image (renamed_id ρ (σ v)))
  look_up_pattern g ρ σ (replacing body part value) = None

  -- the arguments with the answer for each child: under a binder its name is the bound place, in values too
  pub look_up_arguments : Graph → (ℕ → ℕ) → (List ℕ → Applied) → PatternArgs → Option DArgs
  look_up_arguments g ρ σ no_argument = Some stop
  look_up_arguments g ρ σ (own_name x rest) = option_map (place (ρ x)) (look_up_arguments g ρ σ rest)
  look_up_arguments g ρ σ (child_pattern p rest) = both (λ a found. child_before (as_term a) found) (look_up_pattern g ρ σ p) (look_up_arguments g ρ σ rest)
  look_up_arguments g ρ σ (binding x inner rest) = both scope (look_up_arguments g (extend x ρ) σ inner) (look_up_arguments g ρ σ rest)

-- names outside stay as they are
pub record IsLookedUpLive (g : Graph) (s : Values) (p : Pattern) : Type 0 where
  pub answer : Applied
  pub looked_up : look_up_pattern g (λ y. y) (valued s) p ≡ Some answer
  pub live : class_found g.image answer.0 ≡ answer.0

pub record IsLookedUpAt (g : Graph) (c : ℕ) (s : Values) (p : Pattern) : Type 0 where
  pub answer : Applied
  pub looked_up : look_up_pattern g (λ y. y) (valued s) p ≡ Some answer
  pub class : answer.0 ≡ c
