-- The laws of edits in rounds, for data of any type D and an analysis that asks what `modify` says, owed by `edit_laws_hold` in
-- src/edit.rt.
use Rattle.std.specs.Prelude.{◌≡◌, ◌⊎◌, ℕ, ◌<◌, length, List, [], Contains, Some}
use Rattle.slotted_theory.specs.Nameless.{DTerm}
use Rattle.slotted_theory.specs.Derives.{Equal}
use Rattle.slotted_model.specs.Applied.{Applied, EachChild}
use Rattle.slotted_model.specs.Classes.{term_of, IsFull}
use Rattle.slotted_model.specs.Filling.{IsFilling}
use Rattle.slotted_model.specs.Find.{used_slots, find_class}
use Rattle.slotted_model.specs.ProofList.{asserted}
use Rattle.slotted_model.specs.State.{State, look_up_node, look_up_tree}
use Rattle.slotted_model.specs.Trees.{IsTree}
use Rattle.slotted_model.specs.Rest.{IsValidIn, AtRest, FoundTogether}
use Rattle.slotted_model.specs.Changes.{GoesOn}
use Rattle.slotted_model_analyses.specs.Analysis.{Analysis, IsMerge, Absorbs}
use Rattle.slotted_model_analyses.specs.DataPart.{DataPart, DataGoesDown, RestsWithData}
use Rattle.slotted_model_analyses.specs.DataWrites.{HasNotedAll, MergesInto}
use Rattle.slotted_model_analyses.specs.Rounds.{Edit, Modify, Answers, IsOfTrees, AnswersTrees, AddsNodes, AddsTree, MakesEdit, TakesRound, Rounds, AddsExpr, IsAsked}
use Rattle.slotted_model_analyses.specs.Steps.{AddsNodesWithData, IsInSteps, RoundsAs, AddsExprAs}

-- classes that are made, one after another, lead from rest to rest, assert nothing, and leave each full id its term
abbrev pub NodesCanBeAdded : Type 0
NodesCanBeAdded =
    (g : State) → AtRest g → (h : State) → AddsNodes g h →
    AtRest h × GoesOn g h
    × (asserted h.nodes h.proofs ≡ asserted g.nodes g.proofs)
    × ((x : Applied) → IsFull g.nodes x → IsFull h.nodes x × (term_of h.nodes x ≡ term_of g.nodes x))

-- each edit leads from rest to rest: data goes down, and what was made or has changed waits to be modified
abbrev pub EditsEndAtRest : Type 0 → Type 0
EditsEndAtRest D =
    (a : Analysis D) → IsMerge D a → (g : State) (s : DataPart D) → RestsWithData a g s →
    (c : ℕ) (slots : List ℕ) (e : Edit) (h : State) (t : DataPart D) →
    MakesEdit a g s c slots e h t → RestsWithData a h t × GoesOn g h × DataGoesDown a g s h t × HasNotedAll g s h t

-- so does a round: what it made or changed waits for the next
abbrev pub RoundsLeaveTheirChanges : (D : Type 0) → Modify D → Type 0
RoundsLeaveTheirChanges D modify =
    (a : Analysis D) → IsMerge D a → (g : State) (s : DataPart D) → RestsWithData a g s →
    (h : State) (t : DataPart D) → TakesRound a modify g s h t →
    RestsWithData a h t × GoesOn g h × DataGoesDown a g s h t × HasNotedAll g (record s { changed = [] }) h t

-- rounds lead from rest to rest, and each pair that is asserted after them was asserted before, or was asked by the analysis for
-- the data of a class in a graph between; with a limit of none nothing changes, so all waits for the next write
abbrev pub RoundsEndAtRest : (D : Type 0) → Modify D → Type 0
RoundsEndAtRest D modify =
    (a : Analysis D) → IsMerge D a → (limit : ℕ) (g : State) (s : DataPart D) → RestsWithData a g s →
    (h : State) (t : DataPart D) →
    Rounds a modify limit g s h t →
    RestsWithData a h t × GoesOn g h × DataGoesDown a g s h t
    × ((pair : DTerm × DTerm) → Contains (asserted h.nodes h.proofs) pair →
    Contains (asserted g.nodes g.proofs) pair ⊎ IsAsked a modify g h pair)
    × (limit ≡ 0 → (h ≡ g) × (t ≡ s))

-- each tree can be added; each edit of trees can be made for a class that is asked, at its slots; and where trees alone are
-- answered there are rounds for each limit, in which exactly these edits are made. In all of them data goes along with each step
abbrev pub RoundsAreThere : (D : Type 0) → Modify D → Type 0
RoundsAreThere D modify =
    (a : Analysis D) → IsMerge D a → (g : State) (s : DataPart D) → RestsWithData a g s →
    ((d : DTerm) → IsTree d → (h : State) × (t : DataPart D) × (b : Applied) × AddsTree a g s d h t b × AddsNodesWithData a g s h t)
    × ((c : ℕ) → c < length g.nodes → (e : Edit) → IsOfTrees e → (h : State) × (t : DataPart D)
    × (m : MakesEdit a g s c (used_slots g.found c) e h t) × IsInSteps m)
    × ((answers : Answers D) → AnswersTrees modify answers → (limit : ℕ) → (h : State) × (t : DataPart D)
    × (r : Rounds a modify limit g s h t) × RoundsAs answers r.rounds)

-- an analysis that asks nothing changes nothing in a round, but that no class waits then
abbrev pub RoundsOfNothing : (D : Type 0) → Modify D → Type 0
RoundsOfNothing D modify =
    (a : Analysis D) → ((x : D) (slots : List ℕ) (e : Edit) → ¬ modify x slots e) →
    (g : State) (s : DataPart D) (h : State) (t : DataPart D) →
    TakesRound a modify g s h t → (h ≡ g) × (t ≡ record s { changed = [] })

-- a value that was merged into the data of a class stays there through the rounds after it: merging it again changes nothing
abbrev pub MergedValuesStay : (D : Type 0) → Modify D → Type 0
MergedValuesStay D modify =
    (a : Analysis D) → IsMerge D a → (limit : ℕ) (g : State) (s : DataPart D) → RestsWithData a g s →
    (i : ℕ) → i < length g.nodes → (v : D) (h k : State) (t u : DataPart D) → MergesInto a g s i v h t → Rounds a modify limit h t k u →
    RestsWithData a k u × GoesOn g k × Absorbs a (u.data_of (find_class k.found i)) v

-- from rest each tree can be looked up once classes are made for it, child by child; and it can be added with rounds after it, if
-- trees alone are answered; in both data goes along with each step
abbrev pub TreesCanBeAdded : (D : Type 0) → Modify D → Type 0
TreesCanBeAdded D modify =
    (a : Analysis D) → IsMerge D a → (g : State) (s : DataPart D) → RestsWithData a g s → (d : DTerm) → IsTree d →
    ((h : State) × (t : DataPart D) × (x : Applied) × AddsNodesWithData a g s h t × (look_up_tree h d ≡ Some x))
    × ((answers : Answers D) → AnswersTrees modify answers → (limit : ℕ) → (h : State) × (t : DataPart D) × (x : Applied)
    × (m : AddsExpr a modify limit g s d h t x) × AddsExprAs answers m)

-- what adding a tree answers is what the look-up of the tree says afterwards, whether its rounds have turned the look-up of a
-- part or not; it is a valid id, whose term, however it is filled, is equal to the tree by what was asserted
abbrev pub AddedTreesAreLookedUp : (D : Type 0) → Modify D → Type 0
AddedTreesAreLookedUp D modify =
    (a : Analysis D) → IsMerge D a → (limit : ℕ) (g : State) (s : DataPart D) → RestsWithData a g s →
    (d : DTerm) (h : State) (t : DataPart D) (x : Applied) →
    AddsExpr a modify limit g s d h t x →
    RestsWithData a h t × GoesOn g h × DataGoesDown a g s h t
    × (look_up_tree h d ≡ Some x) × IsValidIn h x
    × ((b : Applied) (given : List ℕ) → IsFilling h.nodes given x b → Equal (asserted h.nodes h.proofs) (term_of h.nodes b) d)

-- a node over valid ids that is looked up stays so, whatever follows: as a valid id that is found together with what it was looked
-- up as. Of a tree this may fail, where a symmetry is opened that turns a part of it
abbrev pub LookUpsGoOn : Type 0
LookUpsGoOn =
    (g : State) → AtRest g → (h : State) → AtRest h → GoesOn g h → (d : DTerm) → EachChild (IsValidIn g) d.args → (x : Applied) →
    look_up_node g d ≡ Some x → (y : Applied) × (look_up_node h d ≡ Some y) × IsValidIn h y × FoundTogether h x y

-- all these laws
pub record EditLaws (D : Type 0) (modify : Modify D) : Type 0 where
  pub nodes_can_be_added : NodesCanBeAdded
  pub edits_end_at_rest : EditsEndAtRest D
  pub rounds_leave_their_changes : RoundsLeaveTheirChanges D modify
  pub rounds_end_at_rest : RoundsEndAtRest D modify
  pub rounds_are_there : RoundsAreThere D modify
  pub rounds_of_nothing : RoundsOfNothing D modify
  pub merged_values_stay : MergedValuesStay D modify
  pub trees_can_be_added : TreesCanBeAdded D modify
  pub added_trees_are_looked_up : AddedTreesAreLookedUp D modify
  pub look_ups_go_on : LookUpsGoOn
