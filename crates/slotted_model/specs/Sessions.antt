-- Sessions: graphs that are made from nothing, with the lists of the trees that were added and of the pairs that were asserted.
--     Session trees pairs g      g is made by adding these trees and asserting these pairs, the last ones first
--     HoldsJust g trees pairs    these are the trees that g has, and what it asserts
--     Follow pairs others        each of the pairs is derivable from the others
--     AreAmong trees others      each of the trees is, up to its names, one of the others
use Rattle.std.specs.Prelude.{◌≡◌, ℕ, ◌<◌, List, [], ◌∷◌, length, Contains}
use Rattle.slotted_theory.specs.Nameless.{DTerm}
use Rattle.slotted_theory.specs.Derives.{Equal}
use Rattle.slotted_theory.specs.Shape.{shape}
use Rattle.slotted_model.specs.Applied.{Applied}
use Rattle.slotted_model.specs.Classes.{term_of, layer_of, IsFull}
use Rattle.slotted_model.specs.Growth.{IsNew}
use Rattle.slotted_model.specs.ProofList.{asserted}
use Rattle.slotted_model.specs.State.{State}
use Rattle.slotted_model.specs.Rest.{AtRest}
use Rattle.slotted_model.specs.Adding.{Adds, Asserts}

-- the graph of which nothing is said
abbrev pub nothing : State
nothing = record { nodes = []; found = []; proofs = []; rows = []; waiting = []; symmetries = [] }

-- the term of the id is equal to t by what g asserts
abbrev pub StandsFor : State → Applied → DTerm → Type 0
StandsFor g a t = IsFull g.nodes a × Equal (asserted g.nodes g.proofs) (term_of g.nodes a) t

-- how a graph comes about
pub data Session : List DTerm → List (DTerm × DTerm) → State → Type 0 where
  starts : Session [] [] nothing
  -- a tree is added for which an id stands already
  finds : {trees : List DTerm} {pairs : List (DTerm × DTerm)} {g : State} (t : DTerm) (a : Applied) →
      Session trees pairs g → StandsFor g a t → Session (t ∷ trees) pairs g
  -- a tree is added by a new class, of a node that stands for it
  adds : {trees : List DTerm} {pairs : List (DTerm × DTerm)} {g h : State} (t c : DTerm) →
      Session trees pairs g → IsNew g.nodes c → Equal (asserted g.nodes g.proofs) (layer_of g.nodes c) t → Adds g c h →
      Session (t ∷ trees) pairs h
  -- two trees are asserted to be equal, for which ids stand
  asserts : {trees : List DTerm} {pairs : List (DTerm × DTerm)} {g h : State} (t u : DTerm) (a b : Applied) →
      Session trees pairs g → StandsFor g a t → StandsFor g b u → Asserts g a b h → Session trees ((t, u) ∷ pairs) h
  -- nothing is added or asserted, as by an explanation or a shortcut
  keeps : {trees : List DTerm} {pairs : List (DTerm × DTerm)} {g h : State} →
      Session trees pairs g → AtRest h → h.nodes ≡ g.nodes → asserted h.nodes h.proofs ≡ asserted g.nodes g.proofs → Session trees pairs h

-- each tree is equal to the term of an id, and each class has an id whose term is equal to a tree; what is asserted is derivable from the
-- pairs, and they from it
pub record HoldsJust (g : State) (trees : List DTerm) (pairs : List (DTerm × DTerm)) : Type 0 where
  pub rest : AtRest g
  pub has : (t : DTerm) → Contains trees t → (a : Applied) × StandsFor g a t
  pub classes : (i : ℕ) → i < length g.nodes → (a : Applied) × (t : DTerm) × (a.0 ≡ i) × StandsFor g a t × Contains trees t
  pub asserted_follow : (d e : DTerm) → Contains (asserted g.nodes g.proofs) (d, e) → Equal pairs d e
  pub pairs_follow : (d e : DTerm) → Contains pairs (d, e) → Equal (asserted g.nodes g.proofs) d e

-- each of the pairs is derivable from the others
abbrev pub Follow : List (DTerm × DTerm) → List (DTerm × DTerm) → Type 0
Follow pairs others = (d e : DTerm) → Contains pairs (d, e) → Equal others d e

-- each of the trees is one of the others, up to its names
abbrev pub AreAmong : List DTerm → List DTerm → Type 0
AreAmong trees others = (t : DTerm) → Contains trees t → (u : DTerm) × Contains others u × (shape u ≡ shape t)
