-- What is equal where a written rule was applied to its matches.
--     HasEqualIds R given h rule s       instances of both sides under s stand for ids of h, and are equal by what is asserted
--     HaveEqualInstances g h p q s       the same of two pattern trees and one substitution of full ids that fill s, whatever names are given that g knew
--     HasSettledMatches holds g h p q    a search for p in a graph with what g has found answers, and each of them is settled from g to h
--     HasAppliedMatches g h p q          a search for p between g and h found answers, and for each of them instances of p and q are equal in h
use Rattle.std.specs.Prelude.{◌≡◌, ℕ, List, [], Contains, Bool, Some, IsSome}
use Rattle.slotted_theory.specs.Derives.{Equal}
use Rattle.slotted_theory.specs.Nameless.{DTerm}
use Rattle.slotted_slots.specs.Table.{AllKnown}
use Rattle.slotted_patterns.specs.Tree.{PatternTree}
use Rattle.slotted_model.specs.Applied.{Applied}
use Rattle.slotted_model.specs.Classes.{term_of, IsFull}
use Rattle.slotted_model_rules.specs.Conditions.{Values}
use Rattle.slotted_model_rules.specs.Instances.{IsInstance}
use Rattle.slotted_model_rules.specs.Rules.{Rule, valued}
use Rattle.slotted_rule_patterns.specs.PatternCode.{pattern_in}
use Rattle.slotted_operations.specs.Graph.{Graph}
use Rattle.slotted_operations.specs.Image.{asserted_in}
use Rattle.slotted_graph.specs.declared.method.SubstMethod.{SubstMethod}
use Rattle.slotted_graph.specs.Extension.{ExtendsTo}
use Rattle.slotted_rules.specs.Filled.{FillsValues}
use Rattle.slotted_rules.specs.Methods.{AreRepresentatives, method_of, represented}
use Rattle.slotted_rules.specs.Rewriting.{IsSearched, IsSettled}

pub record HasEqualIds (R : DTerm → DTerm → Bool) (given : List ℕ) (h : Graph) (rule : Rule) (s : Values) : Type 0 where
  pub left : Applied
  pub right : Applied
  pub left_full : IsFull h.image.canonical left
  pub right_full : IsFull h.image.canonical right
  pub left_instance : IsInstance R h.image.canonical given (valued s) (λ y. y) rule.left (term_of h.image.canonical left)
  pub right_instance : IsInstance R h.image.canonical given (valued s) (λ y. y) rule.right (term_of h.image.canonical right)
  pub equal : Equal (asserted_in h.image) (term_of h.image.canonical left) (term_of h.image.canonical right)

pub record HaveEqualInstances (g h : Graph) (p q : PatternTree) (s : Values) : Type 0 where
  pub whole_left : IsSome (pattern_in p)
  pub whole_right : IsSome (pattern_in q)
  pub filled : Values
  pub fills : FillsValues g.table h.image.canonical [] s filled
  pub method : SubstMethod
  pub pairs : List (DTerm × DTerm)
  pub are : AreRepresentatives g h pairs
  pub each : (rule : Rule) → pattern_in p ≡ Some rule.left → pattern_in q ≡ Some rule.right → (given : List ℕ) → AllKnown g.table given →
      HasEqualIds (represented (method_of method) pairs) given h rule filled

pub record HasSettledMatches (holds : Values → Graph → Bool → Type 0) (g h : Graph) (p q : PatternTree) : Type 0 where
  pub before : Graph
  pub after : Graph
  pub found : List Values
  pub image : before.image ≡ g.image
  pub extends : ExtendsTo g before
  pub searched : IsSearched p before found after
  pub end : ExtendsTo after h
  pub settled : (s : Values) → Contains found s → IsSettled holds p q g h s

pub record HasAppliedMatches (g h : Graph) (p q : PatternTree) : Type 0 where
  pub before : Graph
  pub after : Graph
  pub found : List Values
  pub extends : ExtendsTo g before
  pub searched : IsSearched p before found after
  pub end : ExtendsTo after h
  pub equal : (s : Values) → Contains found s → HaveEqualInstances g h p q s
