-- Congruence of two classes: what a call needs of the equation, and what it leaves.
--     IsOfAlike k e           the sides of the equation are full ids that find alike
--     AreTwins k e            they are full ids whose nodes have one normal form, and they share the names of that and no others
--     AreChildrenOf k e cs    the children of the canonical nodes, with the names of the sides put in, have these equations
--     HasLargeBridge k es     a class that one of the equations finds has too many slots
--     ProvesEach k l es ps    proofs of the equations are entered, and nothing else
--     ProvesTwins k l e p     so is the congruence of the two classes
use Rattle.std.specs.Prelude.{◌≡◌, ◌⊎◌, ℕ, ◌<◌, List, length, slice_index_or, All, Contains}
use Rattle.slotted_model.specs.Classes.{canonical_node, IsFull}
use Rattle.slotted_model.specs.Normal.{HasNormalTwin}
use Rattle.slotted_model.specs.Rebuild.{IsCongruence}
use Rattle.slotted_proofs.specs.declared.equation.Equation.{Equation as Sides}
use Rattle.slotted_proofs.specs.AlikeNodes.{AreAlikeNodes}
use Rattle.slotted_proofs.specs.Entries.{statement_at}
use Rattle.slotted_proofs.specs.Equations.{to_applied, statement_of}
use Rattle.slotted_proofs.specs.Steps.{HasInjectiveSides, IsLarge}
use Rattle.slotted_classes.specs.Finding.{FindAlike}
use Rattle.slotted_classes.specs.Kept.{Kept, nodes_of, entries_of}
use Rattle.slotted_rebuilding.specs.Proving.{OnlyProves, HasLargeClassOf}
use Rattle.slotted_classes.specs.StateOf.{state_of}
use Rattle.slotted_rebuilding.specs.Named.{HasWideSide, SidesRunOut}

pub record IsOfAlike (k : Kept) (e : Sides) : Type 0 where
  pub left : IsFull (nodes_of k) (to_applied e.l)
  pub right : IsFull (nodes_of k) (to_applied e.r)
  pub alike : FindAlike (entries_of k) (to_applied e.l) (to_applied e.r)

pub record AreTwins (k : Kept) (e : Sides) : Type 0 where
  pub left : IsFull (nodes_of k) (to_applied e.l)
  pub twin : HasNormalTwin (nodes_of k) (entries_of k) (to_applied e.l) (to_applied e.r)

pub record AreChildrenOf (k : Kept) (e : Sides) (children : List Sides) : Type 0 where
  pub nodes : AreAlikeNodes (canonical_node (nodes_of k) e.l.id.0) (canonical_node (nodes_of k) e.r.id.0) e children
  pub injective : All HasInjectiveSides children
  pub alike : All (IsOfAlike k) children
  -- where one of them has too many names, the canonical node of a side is wide
  pub fits : IsLarge children → HasWideSide (nodes_of k) e

-- the equation stands at the number p
abbrev pub ProvesSides : Kept → Sides → ℕ → Type 0
ProvesSides l e p = (p < length l.proofs) × ((statement_at l.proofs p).equation ≡ (statement_of e).equation)

-- nothing but proofs is entered, and each equation stands at the number in its place
pub record ProvesEach (k l : Kept) (equations : List Sides) (parts : List ℕ) : Type 0 where
  pub only : OnlyProves k l
  pub count : length parts ≡ length equations
  pub each : (i p : ℕ) (e : Sides) → i < length parts → ProvesSides l (slice_index_or equations i e) (slice_index_or parts i p)

-- nothing but proofs is entered, and p is a congruence of the classes of the two sides
pub record ProvesTwins (k l : Kept) (e : Sides) (p : ℕ) : Type 0 where
  pub only : OnlyProves k l
  pub congruence : IsCongruence (state_of l) p e.l.id.0 e.r.id.0

-- slots can run out at the bridge of one of the equations
pub record HasLargeBridge (k : Kept) (equations : List Sides) : Type 0 where
  pub equation : Sides
  pub among : Contains equations equation
  pub large : HasLargeClassOf k equation.l.id.0 equation.r.id.0

-- so they can at that of two children of the canonical nodes
pub record HasLargeChild (k : Kept) (e : Sides) : Type 0 where
  pub children : List Sides
  pub are : AreChildrenOf k e children
  pub large : HasLargeBridge k children

-- slots can run out at the congruence: at its own step, or at the bridge of two children
abbrev pub TwinsRunOut : Kept → Sides → Type 0
TwinsRunOut k e = SidesRunOut (nodes_of k) e ⊎ HasLargeChild k e
