-- Two nodes that agree but for their children, and the equations of the children.
--     under bs a               an applied id with its names as numbers below binders
--     AreAlikeForms f g cs     the nodes agree but for their children, which have these equations
use Rattle.std.specs.Prelude.{◌≡◌, ℕ, Option, List, All}
use Rattle.slotted_theory.specs.Shape.{number_in}
use Rattle.slotted_theory.specs.FiniteMaps.{value_of, with_values}
use Rattle.slotted_slots.specs.declared.types.AppliedId.{AppliedId}
use Rattle.slotted_nodes.specs.Form.{Form}
use Rattle.slotted_languages.specs.NodeTerm.{nameless_node}
use Rattle.slotted_model.specs.Applied.{Applied}
use Rattle.slotted_model.specs.Correspondence.{flipped, same_names}
use Rattle.slotted_proofs.specs.declared.equation.Equation.{Equation as Sides}
use Rattle.slotted_proofs.specs.AlikeNodes.{AreAlikeArgs}
use Rattle.slotted_proofs.specs.Equations.{to_applied}
use Rattle.slotted_proofs.specs.Steps.{HasInjectiveSides, Matches}
use Rattle.slotted_outlines.specs.Seen.{lefts, rights}

-- the names of a map as numbers below the binders, the innermost first
abbrev pub numbers_under : List ℕ → List (ℕ × ℕ) → List (ℕ × ℕ)
numbers_under bs m = with_values (number_in bs) m

abbrev pub under : List ℕ → Applied → Applied
under bs a = (a.0, numbers_under bs a.1)

-- the slot of the left child whose name is this one of the right child, below the pairs of binders
abbrev pub partner_of : List (ℕ × ℕ) → List (ℕ × ℕ) → ℕ → Option ℕ
partner_of bs left name = value_of (flipped (numbers_under (lefts bs) left)) (number_in (rights bs) name)

-- for each slot of the right child the one of the left child with the same name
abbrev pub partners_of : List (ℕ × ℕ) → List (ℕ × ℕ) → List (ℕ × ℕ) → List (ℕ × ℕ)
partners_of bs left right = same_names (numbers_under (rights bs) right) (numbers_under (lefts bs) left)

-- the equation of the two children, below the pairs of binders, is this one up to renaming
abbrev pub MatchesBelow : List (ℕ × ℕ) → AppliedId → AppliedId → Sides → Type 0
MatchesBelow bs left right e = Matches (under (lefts bs) (to_applied left)) (under (rights bs) (to_applied right)) (to_applied e.l) (to_applied e.r)

-- the same operator, payloads, own names and binders, and children with these equations
pub record AreAlikeForms (f g : Form) (cs : List Sides) : Type 0 where
  pub operators : f.operator ≡ g.operator
  pub payloads : f.payloads ≡ g.payloads
  pub args : AreAlikeArgs (nameless_node f).args (nameless_node g).args cs

-- no equations of the children, in which no name stands twice on a side, make the nodes agree
abbrev pub AreNeverAlike : Form → Form → Type 0
AreNeverAlike f g = (cs : List Sides) → All HasInjectiveSides cs → ¬ AreAlikeForms f g cs
