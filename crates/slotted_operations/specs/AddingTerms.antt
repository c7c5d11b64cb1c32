-- Adding a term by look-up: its nodes are added from below, each over what its children were looked up as.
--     AddsNode t g h        a node of the term t is added
--     AddsNodes t g n h     n of its nodes are added, one after another
--     TakesForTerm          so many slots are made where nodes of a term are added
--     LacksForTerm          slots ran out for a node of the term
--     FilesOnlyLookedUp     each new class is what a subterm is looked up as now
--     IsEqualToTerm g a t   by what was asserted the id is equal to the term, whatever names are filled in
use Rattle.std.specs.Prelude.{◌≡◌, ◌⊎◌, ◌<◌, ◌≤◌, ℕ, suc, All, IsSome, None, Some}
use Rattle.slotted_slots.specs.Table.{KnowsMore, Table, AllKnown}
use Rattle.slotted_theory.specs.Derives.{Equal}
use Rattle.slotted_theory.specs.Nameless.{nameless}
use Rattle.slotted_theory.specs.Term.{Term}
use Rattle.slotted_nodes.specs.Form.{Form}
use Rattle.slotted_languages.specs.NewNames.{IsTooLarge}
use Rattle.slotted_languages.specs.Shape.{Fits}
use Rattle.slotted_model.specs.Applied.{Applied}
use Rattle.slotted_model.specs.Classes.{term_of}
use Rattle.slotted_model.specs.Growth.{Extends}
use Rattle.slotted_operations.specs.Adding.{IsOfTerm, RunsOutForFilled, slots_needed, term_nodes}
use Rattle.slotted_operations.specs.ValidIds.{Fills, IsValidId}
use Rattle.slotted_operations.specs.Graph.{Graph, MakesAtMost}
use Rattle.slotted_operations.specs.Image.{AddsClasses, Image, NewClassesAre, asserted_in}
use Rattle.slotted_operations.specs.LookUp.{HasSameClasses, KeepsLookUps, MakesClassFor, look_up, look_up_nameless, look_up_term}
use Rattle.slotted_operations.specs.Nodes.{child_ids}
use Rattle.slotted_operations.specs.Subterms.{IsSubterm, IsTopIn}

-- the node's names are known, and `eq` can be asked of its children
pub record IsOver (g : Graph) (f : Form) : Type 0 where
  pub known : AllKnown g.table f.names
  pub children : All (IsValidId g) (child_ids f)

-- the node at the top of a subterm, which is no larger than the term, is added: it has an id from now on, by a class of its own
-- where it was not looked up, and what was looked up stays
pub record AddsNode (t : Term) (g h : Graph) : Type 0 where
  pub node : Form
  pub over : IsOver g node
  pub small : IsOfTerm t node
  pub top : IsTopIn (look_up_nameless g) t node
  pub answer : Applied
  pub id : look_up h node ≡ Some answer
  pub kept : IsSome (look_up g node) → HasSameClasses g h
  pub made : MakesClassFor g h node answer
  pub answers : KeepsLookUps g h
  pub extends : Extends g.image.canonical h.image.canonical
  pub adds : AddsClasses g.image h.image
  pub more : KnowsMore g.table h.table
  pub makes : MakesAtMost (slots_needed g.image node) g.table h.table

pub data AddsNodes (t : Term) (g : Graph) : ℕ → Graph → Type 0 where
  none_added : AddsNodes t g 0 g
  one_added : {n : ℕ} {h i : Graph} → AddsNodes t g n h → AddsNode t h i → AddsNodes t g (suc n) i

-- some nodes of the term were added, and perhaps slots were made for one more
pub record TakesForTerm (t : Term) (g : Graph) (new : Table) : Type 0 where
  pub count : ℕ
  pub few : count ≤ term_nodes t
  pub reached : Graph
  pub nodes : AddsNodes t g count reached
  pub last : (new ≡ reached.table) ⊎ ((f : Form) × IsOver reached f × IsOfTerm t f
      × MakesAtMost (slots_needed reached.image f) reached.table new × IsTopIn (look_up_nameless reached) t f)

-- slots ran out for the node at the top of a subterm, after others were added: one that is looked up as the subterm is, so as nothing, or that
-- has too many places
pub record LacksForTerm (t : Term) (g : Graph) (new : Table) : Type 0 where
  pub count : ℕ
  pub few : count < term_nodes t
  pub reached : Graph
  pub nodes : AddsNodes t g count reached
  pub node : Form
  pub over : IsOver reached node
  pub fits : Fits node
  pub small : IsOfTerm t node
  pub cause : RunsOutForFilled reached.image node reached.table new
  pub unknown : (look_up reached node ≡ None) ⊎ IsTooLarge node
  pub top : IsTopIn (look_up_nameless reached) t node
  pub same : look_up_term reached top.subterm ≡ look_up reached node

-- a subterm of t is looked up as the id
pub record IsLookedUpSubterm (g : Graph) (t : Term) (a : Applied) : Type 0 where
  pub subterm : Term
  pub stands : IsSubterm subterm t
  pub found : look_up_term g subterm ≡ Some a

abbrev pub FilesOnlyLookedUp : Graph → Graph → Term → Type 0
FilesOnlyLookedUp g h t = NewClassesAre g.image.canonical h.image.canonical (IsLookedUpSubterm h t)

abbrev pub IsEqualToTerm : Image → Applied → Term → Type 0
IsEqualToTerm g a t = (left : Applied) → Fills g a left → Equal (asserted_in g) (term_of g.canonical left) (nameless t)
