-- What is known of a method of substitution.
--     Method                    nothing is known, or it looks into canonical terms, or into terms of least size
--     method_of x               the method that a graph can be made with
--     represented m X u r       by the method the term r stands for the term u, where X are the pairs that were extracted
--     AreRepresentatives g h X  each pair of X is the term of an id and a term of least size that it represents, in a graph between g and h
--     SubstitutesBy m g h b x t a      from g to h the method answers a for b[x := t]
--     AsksMethod substitutes k g l h   from g with the method k to h with l the method was asked, so often as may be. What is done between asserts nothing
use Rattle.std.specs.Prelude.{◌≡◌, Bool, IsTrue, List, Contains}
use Rattle.std.specs.Ordering.{nat_cmp}
use Rattle.slotted_theory.specs.Term.{Term}
use Rattle.slotted_theory.specs.Nameless.{DTerm, nameless}
use Rattle.slotted_model.specs.Applied.{Applied}
use Rattle.slotted_model.specs.Classes.{term_of}
use Rattle.slotted_costs.specs.Costs.{costs_by}
use Rattle.slotted_costs.specs.Size.{size_cost}
use Rattle.slotted_graph.specs.declared.method.SubstMethod.{SubstMethod}
use Rattle.slotted_graph.specs.declared.method.SubstMethod.TheVariants.{SynExpr, Extraction}
use Rattle.slotted_graph.specs.Graph.{Graph, IsFullId}
use Rattle.slotted_graph.specs.LeastTerms.{IsLeastTerm}
use Rattle.slotted_graph.specs.Extension.{ExtendsTo, IsBetween}
use Rattle.slotted_model_rules.specs.Instances.{is_itself}
use Rattle.slotted_model_rules.specs.Representing.{is_listed}
use Rattle.slotted_model_rules.specs.Substitution.{substituted}
use Rattle.slotted_rules.specs.Building.{AssertsNothing}

pub data Method : Type 0 where
  unknown : Method
  canonical : Method
  extracted : Method

abbrev pub IsKnownMethod : Method → Type 0
IsKnownMethod unknown = ⊥
IsKnownMethod canonical = Unit {0}
IsKnownMethod extracted = Unit {0}

-- the methods that a graph can be made with
abbrev pub method_of : SubstMethod → Method
method_of SynExpr = canonical
method_of Extraction = extracted

abbrev pub represented : Method → List (DTerm × DTerm) → DTerm → DTerm → Bool
represented unknown X = is_itself
represented canonical X = is_itself
represented extracted X = is_listed X

-- u is the term of an id, and r a term of fewest nodes that the id represents in a graph between g and h
pub record IsRepresentative (g h : Graph) (u r : DTerm) : Type 0 where
  pub moment : Graph
  pub between : IsBetween g h moment
  pub id : Applied
  pub full : IsFullId moment id
  pub is : u ≡ term_of moment.image.canonical id
  pub term : Term
  pub least : IsLeastTerm moment (costs_by nat_cmp size_cost) id term
  pub represents : r ≡ nameless term

abbrev pub AreRepresentatives : Graph → Graph → List (DTerm × DTerm) → Type 0
AreRepresentatives g h X = (p : DTerm × DTerm) → Contains X p → IsRepresentative g h p.0 p.1

-- a stands for what the method takes for b, with the term of t for each topmost part that is the term of x
pub record SubstitutesBy (m : Method) (g h : Graph) (b x t a : Applied) : Type 0 where
  pub full : IsFullId h a
  pub asserts : AssertsNothing g h
  pub pairs : List (DTerm × DTerm)
  pub are : AreRepresentatives g h pairs
  pub body : DTerm
  pub stands : IsTrue (represented m pairs (term_of h.image.canonical b) body)
  pub term : term_of h.image.canonical a ≡ substituted (term_of h.image.canonical x) (term_of h.image.canonical t) body

pub data AsksMethod {M : Type 0} (substitutes : M → Graph → Applied → Applied → Applied → Applied → M → Graph → Type 0) (k : M) (g : Graph) : M → Graph → Type 0 where
  not_asked : AsksMethod substitutes k g k g
  then_built : {l : M} {f h : Graph} → AsksMethod substitutes k g l f → ExtendsTo f h → AssertsNothing f h → AsksMethod substitutes k g l h
  then_asked : {l m : M} {f h : Graph} (b x t a : Applied) → AsksMethod substitutes k g l f → ExtendsTo f h → substitutes l f b x t a m h → AsksMethod substitutes k g m h
