-- Instances of patterns in a graph.
--     AreValidValues g s          each value is an id of the graph
--     HasValues s q               each variable of the pattern has a value
--     IsAnswerFor m g h σ q a     a is the value of the pattern if that is a variable, and else a full id of an instance of it
--     Instantiates m g h s q a    from g to h such an id is built for the pattern q
--     InstantiatesKnown g h s q a    the same by a method that a graph can be made with
use Rattle.std.specs.Prelude.{◌≡◌, ℕ, List, All, Some, true}
use Rattle.slotted_theory.specs.Nameless.{DTerm}
use Rattle.slotted_slots.specs.Table.{AllKnown}
use Rattle.slotted_patterns.specs.Tree.{PatternTree}
use Rattle.slotted_model.specs.Applied.{Applied}
use Rattle.slotted_graph.specs.declared.method.SubstMethod.{SubstMethod}
use Rattle.slotted_graph.specs.Graph.{Graph}
use Rattle.slotted_graph.specs.ValidIds.{IsValidId}
use Rattle.slotted_model_rules.specs.Conditions.{Values}
use Rattle.slotted_model_rules.specs.Instances.{IsAnswer}
use Rattle.slotted_model_rules.specs.Patterns.{Pattern}
use Rattle.slotted_model_rules.specs.Rules.{valued}
use Rattle.slotted_rule_patterns.specs.PatternCode.{pattern_in}
use Rattle.slotted_rule_patterns.specs.Variables.{has_value, variables_of}
use Rattle.slotted_rules.specs.Building.{AssertsNothing, Grows}
use Rattle.slotted_rules.specs.Methods.{AreRepresentatives, IsKnownMethod, Method, method_of, represented}

abbrev pub AreValidValues : Graph → Values → Type 0
AreValidValues g s = All (λ e. IsValidId g e.1) s

abbrev pub HasValues : Values → PatternTree → Type 0
HasValues s q = All (λ v. has_value s v ≡ true) (variables_of q)

-- whatever names are given that the older table knew: what is filled in for those that a value lacks is none of them
pub record IsAnswerFor (m : Method) (g h : Graph) (s : Values) (q : PatternTree) (a : Applied) : Type 0 where
  pub asserts : AssertsNothing g h
  pub pairs : List (DTerm × DTerm)
  pub are : AreRepresentatives g h pairs
  pub answers : (p : Pattern) → pattern_in q ≡ Some p → (given : List ℕ) → AllKnown g.table given →
      IsAnswer (represented m pairs) h.image.canonical given (valued s) p a

pub record Instantiates (m : Method) (g h : Graph) (s : Values) (q : PatternTree) (a : Applied) : Type 0 where
  pub grows : Grows g h
  pub valid : IsValidId h a
  pub instance : IsKnownMethod m → IsAnswerFor m g h s q a

-- the same by one of the methods that a graph can be made with
pub record InstantiatesKnown (g h : Graph) (s : Values) (q : PatternTree) (a : Applied) : Type 0 where
  pub method : SubstMethod
  pub instance : Instantiates (method_of method) g h s q a
