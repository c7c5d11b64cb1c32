-- Checked steps: when a step proves an equation over a graph, and what an accepted one leaves.
--     SaysIn g p a b      the entry with the number p says, up to renaming, that a = b
--     Fits g e s          the step s proves the equation e over the entries of the graph
--     CanRunOut g e s     slots can run out
--     Accepts g h x p     the equation of x stands at p: nothing changed, or x is entered last, and nothing else changed
use Rattle.std.specs.Prelude.{◌≡◌, ◌⊎◌, ℕ, ◌<◌, List, [], ◌∷◌, ◌++◌, length, slice_index_or}
use Rattle.slotted_theory.specs.FiniteMaps.{IsInjectiveMap}
use Rattle.slotted_model.specs.Applied.{Applied}
use Rattle.slotted_model.specs.Classes.{canonical_node, IsFull}
use Rattle.slotted_model.specs.ProofList.{Step, explicit, reflexive, symmetric, transitive, congruent, equation_of, equation_at}
use Rattle.slotted_proofs.specs.declared.equation.Equation.{Equation as Sides}
use Rattle.slotted_proofs.specs.AlikeNodes.{AreAlikeNodes}
use Rattle.slotted_proofs.specs.Entries.{Proven, entry_of}
use Rattle.slotted_proofs.specs.Equations.{to_applied, statement_of}
use Rattle.slotted_proofs.specs.StepClaims.{IsOfFull}
use Rattle.slotted_proofs.specs.Steps.{Matches, by_step}
use Rattle.slotted_operations.specs.Causes.{HasManyNames, SidesRunOut}
use Rattle.slotted_operations.specs.Graph.{Graph}
use Rattle.slotted_operations.specs.Image.{Image, AreDerivable, StandsIn}
use Rattle.slotted_operations.specs.Leaves.{FollowsFromLeaves}

-- the entry with the number p is the equation of some ids, and one injective map of names takes a = b to it on both sides
pub record SaysIn (g : Image) (p : ℕ) (a b : Applied) : Type 0 where
  pub in_range : p < length g.entries
  pub left : Applied
  pub right : Applied
  pub left_full : IsFull g.canonical left
  pub right_full : IsFull g.canonical right
  pub equation : equation_of left right ≡ equation_at g.entries p
  pub matches : Matches a b left right

-- for some middle, whose names are different, the first entry says that the left side equals it, and the second one that it equals the
-- right side
pub record GoesBetween (g : Image) (e : Sides) (p q : ℕ) : Type 0 where
  pub middle : Applied
  pub injective : IsInjectiveMap middle.1
  pub first : SaysIn g p (to_applied e.l) middle
  pub second : SaysIn g q middle (to_applied e.r)

-- the canonical nodes of the two classes, with the names of the sides put in, are alike, and there is an entry for each child
pub record IsCongruentStep (g : Image) (e : Sides) (parts : List ℕ) : Type 0 where
  pub children : List Sides
  pub alike : AreAlikeNodes (canonical_node g.canonical e.l.id.0) (canonical_node g.canonical e.r.id.0) e children
  pub count : length parts ≡ length children
  pub each : (k n : ℕ) (d : Sides) → k < length parts →
      SaysIn g (slice_index_or parts k n) (to_applied (slice_index_or children k d).l) (to_applied (slice_index_or children k d).r)

-- the step proves an equation of full ids; no caller can ask for an explicit step
abbrev pub FitsBy : Image → Sides → Step → Type 0
FitsBy g e explicit = ⊥
FitsBy g e reflexive = to_applied e.l ≡ to_applied e.r
FitsBy g e (symmetric p) = SaysIn g p (to_applied e.r) (to_applied e.l)
FitsBy g e (transitive p q) = GoesBetween g e p q
FitsBy g e (congruent parts) = IsCongruentStep g e parts

-- both sides are ids of this graph, with different names for exactly the canonical slots of their classes, and the step proves the
-- equation
abbrev pub Fits : Image → Sides → Step → Type 0
Fits g e s = IsOfFull g.canonical e × FitsBy g e s

-- slots can run out where the sides have too many names, or at a congruent step where the canonical node of one of them is wide
abbrev pub CanRunOut : Image → Sides → Step → Type 0
CanRunOut g e (congruent parts) = SidesRunOut g.canonical e
CanRunOut g e explicit = HasManyNames e
CanRunOut g e reflexive = HasManyNames e
CanRunOut g e (symmetric p) = HasManyNames e
CanRunOut g e (transitive p q) = HasManyNames e

-- the equation is derivable from what was asserted
abbrev pub IsDerivable : Image → Sides → Type 0
IsDerivable g e = AreDerivable g (to_applied e.l) (to_applied e.r)

-- it follows from the explicit leaves of the entry p
abbrev pub FollowsFromEntry : Image → Sides → ℕ → Type 0
FollowsFromEntry g e p = FollowsFromLeaves g p (to_applied e.l) (to_applied e.r)

-- the entry of an equation by a step
abbrev pub entry_by : Sides → Step → Proven
entry_by e s = by_step (statement_of e) s

-- the graph with one more entry
abbrev pub with_entry : Graph → Proven → Graph
with_entry g x = record g { image = record g.image { entries = g.image.entries ++ entry_of x ∷ []; stored = g.image.stored ++ x ∷ [] } }

-- the equation of x stands at the number p: it stood there, and nothing changed, or it stood nowhere and x is entered last, and
-- nothing else changed
pub record Accepts (g h : Graph) (x : Proven) (p : ℕ) : Type 0 where
  pub in_range : p < length h.image.entries
  pub stands : equation_at h.image.entries p ≡ x.statement.equation
  pub grows : ((p < length g.image.entries) × (h ≡ g)) ⊎
      ((¬ StandsIn g.image x.statement.equation) × (p ≡ length g.image.entries) × (h ≡ with_entry g x))
