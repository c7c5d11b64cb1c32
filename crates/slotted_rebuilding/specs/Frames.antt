-- When a step proves an equation over what is kept.
--     IsCongruentIn k e parts  a congruent step over the parts proves the equation
--     FitsReflexive k e and so on   the equation is one of full ids, and the step proves it
use Rattle.std.specs.Prelude.{ℕ, List, All}
use Rattle.slotted_model.specs.Classes.{canonical_node}
use Rattle.slotted_proofs.specs.declared.equation.Equation.{Equation as Sides}
use Rattle.slotted_proofs.specs.AlikeNodes.{AreAlikeNodes}
use Rattle.slotted_proofs.specs.StepClaims.{IsOfFull}
use Rattle.slotted_proofs.specs.Steps.{AreEntries, HasInjectiveSides, IsReflexiveStep, IsSymmetricStep, IsTransitiveStep}
use Rattle.slotted_classes.specs.Kept.{Kept, nodes_of}

-- the canonical nodes of the two classes, with the names of the sides put in, agree but for their children, and each part says what the
-- equation of the children there says
pub record IsCongruentIn (k : Kept) (e : Sides) (parts : List ℕ) : Type 0 where
  pub children : List Sides
  pub injective : All HasInjectiveSides children
  pub alike : AreAlikeNodes (canonical_node (nodes_of k) e.l.id.0) (canonical_node (nodes_of k) e.r.id.0) e children
  pub entries : AreEntries k.proofs parts children

-- both sides of the equation are full ids, and the step proves it over what is kept
abbrev pub FitsReflexive : Kept → Sides → Type 0
FitsReflexive k e = IsOfFull (nodes_of k) e × IsReflexiveStep e

abbrev pub FitsSymmetric : Kept → Sides → ℕ → Type 0
FitsSymmetric k e p = IsOfFull (nodes_of k) e × IsSymmetricStep k.proofs e p

abbrev pub FitsTransitive : Kept → Sides → ℕ → ℕ → Type 0
FitsTransitive k e p q = IsOfFull (nodes_of k) e × IsTransitiveStep k.proofs e p q

abbrev pub FitsCongruent : Kept → Sides → List ℕ → Type 0
FitsCongruent k e parts = IsOfFull (nodes_of k) e × IsCongruentIn k e parts
