-- Uniting instances of two patterns.
--     UnitesInstances g h s p q text y      instances of both are built over the filled values of s, and then asserted to be equal, with the text
--     HasEquationOfInstances R given g h rule s text     what a rule needs of that
use Rattle.std.specs.Prelude.{◌≡◌, ◌<◌, ◌≤◌, ℕ, List, [], length, Bool, Option}
use Rattle.slotted_slots.specs.declared.types.AppliedId.{AppliedId}
use Rattle.slotted_theory.specs.Nameless.{DTerm}
use Rattle.slotted_model.specs.ProofList.{Equation, equation_at, explicit, step_at}
use Rattle.slotted_model_rules.specs.Rules.{IsEquationOfInstances, Rule}
use Rattle.slotted_proofs.specs.Entries.{proven_at}
use Rattle.slotted_patterns.specs.Tree.{PatternTree}
use Rattle.slotted_proofs.specs.Equations.{to_applied}
use Rattle.slotted_graph.specs.declared.method.SubstMethod.{SubstMethod}
use Rattle.slotted_graph.specs.Graph.{Graph, RecordsUnion}
use Rattle.slotted_graph.specs.Image.{IsUnion}
use Rattle.slotted_graph.specs.States.{IsGraph}
use Rattle.slotted_graph.specs.Extension.{ExtendsTo}
use Rattle.slotted_model_rules.specs.Conditions.{Values}
use Rattle.slotted_rules.specs.Filled.{AreFullValues, FillsValues}
use Rattle.slotted_rules.specs.Instances.{Instantiates}
use Rattle.slotted_rules.specs.Methods.{method_of}

-- each value gets its missing names once, for both patterns; by one method both answers stand in the graph that was built, in which nothing
-- more is asserted; the union of the two answers y
pub record UnitesInstances (g h : Graph) (s : Values) (p q : PatternTree) (text : Option (List ℕ)) (y : Bool) : Type 0 where
  pub built : Graph
  pub filled : Values
  pub fills : FillsValues g.table built.image.canonical [] s filled
  pub full : AreFullValues built filled
  pub left : AppliedId
  pub right : AppliedId
  pub method : SubstMethod
  pub left_instance : Instantiates (method_of method) g built filled p (to_applied left)
  pub right_instance : Instantiates (method_of method) g built filled q (to_applied right)
  pub union : IsUnion built.image h.image (to_applied left) (to_applied right) y
  pub recorded : RecordsUnion built h left right text
  pub graph : IsGraph h
  pub extends : ExtendsTo g h
  pub later : ExtendsTo built h

-- an equation of instances of both stands in the proof list of h, and each explicit entry that g has not is that one, with the text
pub record HasEquationOfInstances (R : DTerm → DTerm → Bool) (given : List ℕ) (g h : Graph) (rule : Rule) (s : Values) (text : Option (List ℕ)) : Type 0 where
  pub equation : Equation
  pub instances : IsEquationOfInstances R given h.image.canonical rule s equation
  pub number : ℕ
  pub in_range : number < length h.image.entries
  pub stands : equation_at h.image.entries number ≡ equation
  pub only : (p : ℕ) → length g.image.entries ≤ p → p < length h.image.entries → step_at h.image.entries p ≡ explicit →
      (equation_at h.image.entries p ≡ equation) × ((proven_at h.image.stored p).text ≡ text)
