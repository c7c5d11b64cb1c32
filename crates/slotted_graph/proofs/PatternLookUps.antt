-- What patterns are looked up as: contracts say it by graphs, the model by its states.
use Rattle.std.proofs.Common.{◌≡◌, ◌∙◌, ℕ, List, Option, Some, None, ap, refl, sym}
use Rattle.std.specs.Prelude.{option_map, option_and_then}
use Rattle.slotted_theory.specs.Nameless.{DArgs, place, scope, extend}
use Rattle.slotted_theory.specs.Renaming.{IsInjective}
use Rattle.slotted_theory.proofs.Names.{extend-injective}
use Rattle.slotted_theory.proofs.Values.{node, child_before}
use Rattle.slotted_model.specs.Applied.{Applied, EachChild, as_term, renamed_id}
use Rattle.slotted_model.specs.LookUp.{both}
use Rattle.slotted_model.specs.State.{State, look_up_node}
use Rattle.slotted_model.proofs.Represented.Children.{EachChild-map}
use Rattle.slotted_model_rules.specs.Patterns.{Pattern, PatternArgs, EachVariable, EachVariableIn, pattern_node, variable, replacing, no_argument, own_name, child_pattern, binding}
use Rattle.slotted_model_rules.specs.Patterns as model
use Rattle.slotted_model_rules.proofs.Patterns.LookingUp.{IsFoundId, looked-arguments}
use Rattle.slotted_classes.specs.Finding.{IsFindable}
use Rattle.slotted_classes.specs.Kept.{Kept}
use Rattle.slotted_hashcons.specs.FiledRows.{Rows, rows_in}
use Rattle.slotted_hashcons.specs.WellFiled.{state_in}
use Rattle.slotted_operations.specs.Good.{Good, RestsWith, image_of}
use Rattle.slotted_operations.specs.Graph.{Graph}
use Rattle.slotted_operations.specs.Image.{Image, found_id}
use Rattle.slotted_operations.specs.LookUp.{look_up_nameless}
use Rattle.slotted_operations.proofs.Graphs.Images.{found_id-is}
use Rattle.slotted_operations.proofs.LookUps.States.{looked_up-is}
use Rattle.slotted_operations.proofs.Graphs.AtRest.{at-rest}
use Rattle.slotted_operations.proofs.Ids.ValidIds.{findable-within, renamed-findable}
use Rattle.slotted_graph.specs.PatternLookUps as graph

module _ (k : Kept) (r : Rows) (good : Good k) (rests : RestsWith k r) (g : Graph) (image : image_of k ≡ g.image) (filed : rows_in r.filed ≡ g.filed) (σ : List ℕ → Applied) where
  abbrev state : State
  state = state_in k r

  over-is : (op : ℕ) (payloads : List (List ℕ)) (o : Option DArgs) → ((d : DArgs) → o ≡ Some d → EachChild (IsFindable k) d) →
      option_and_then (λ found. look_up_nameless g (node op payloads found)) o ≡ option_and_then (λ found. look_up_node state (node op payloads found)) o
  over-is op payloads None h = refl
  over-is op payloads (Some d) h = looked_up-is k r good rests g image filed (node op payloads d) (h d refl)

  mutual
    pub pattern-is : (ρ : ℕ → ℕ) → IsInjective ρ → (p : Pattern) → EachVariable (λ v. IsFindable k (σ v)) p →
        graph.look_up_pattern g ρ σ p ≡ model.look_up_pattern state ρ σ p
    pattern-is ρ inj (pattern_node op payloads args) h =
        ap (option_and_then (λ found. look_up_nameless g (node op payloads found))) (arguments-are ρ inj args h)
        ∙ over-is op payloads (model.look_up_arguments state ρ σ args)
        (λ d e. EachChild-map (IsFoundId state) (IsFindable k) (λ a is. is.0) d (looked-arguments state (at-rest k r good rests) σ ρ inj args h d e).0)
    pattern-is ρ inj (variable v) h =
        let b : Applied = renamed_id ρ (σ v) in
        let here : found_id (image_of k) b ≡ found_id g.image b = ap (λ (i : Image). found_id i b) image in
        ap Some (sym here ∙ found_id-is k b (findable-within k b (renamed-findable k ρ inj (σ v) h)))
    pattern-is ρ inj (replacing body part value) h = refl

    arguments-are : (ρ : ℕ → ℕ) → IsInjective ρ → (args : PatternArgs) → EachVariableIn (λ v. IsFindable k (σ v)) args →
        graph.look_up_arguments g ρ σ args ≡ model.look_up_arguments state ρ σ args
    arguments-are ρ inj no_argument h = refl
    arguments-are ρ inj (own_name x rest) h = ap (option_map (place (ρ x))) (arguments-are ρ inj rest h)
    arguments-are ρ inj (child_pattern p rest) h = λ i. both (λ a found. child_before (as_term a) found) (pattern-is ρ inj p h.0 i) (arguments-are ρ inj rest h.1 i)
    arguments-are ρ inj (binding x inner rest) h = λ i. both scope (arguments-are (extend x ρ) (extend-injective x ρ inj) inner h.0 i) (arguments-are ρ inj rest h.1 i)
