-- What writes leave that modify classes at their ends.
--     MakesForNode, MakesForSynNode, MakesForTerm, MakesForSynTerm    which classes were made for a node or for a term, if any
--     AddsMore .. W g h           the classes were added that W says, and nothing was asserted
--     AddsAndModifies .. W g h    so they were, and then classes were modified. What was to be added may be added again
--     AddsSynBefore g h f a       the id of a node was found or made, and then other classes may have been modified
--     UnitesAndModifies ..        two ids were united, and then classes were modified
--     MergesAndModifies ..        a value was merged into the data of a class, and then classes were modified
--     ExplainsAndModifies ..      two terms were added, each with what is asked then, and explained, which asserts nothing and modifies no class
--     IfUnmodified m P            P, unless classes are modified
--     LeavesAsked .. g h          what was there stays, data only went down, and nothing was asserted but what edits say
--     LeavesAskedWith given .. g h    the same, where data comes from this, too, which was given for classes
use Rattle.std.specs.Prelude.{◌≡◌, ◌⊎◌, ℕ, List, [], Bool, IsSome, Option, true, false}
use Rattle.std.specs.Coded.{Coded}
use Rattle.slotted_slots.specs.declared.types.AppliedId.{AppliedId}
use Rattle.slotted_theory.specs.Term.{Term}
use Rattle.slotted_nodes.specs.Form.{Form}
use Rattle.slotted_model.specs.Applied.{Applied}
use Rattle.slotted_proofs.specs.Equations.{to_applied}
use Rattle.slotted_data.specs.Meaning.{Meaning}
use Rattle.slotted_operations.specs.Adding.{AddsSyn}
use Rattle.slotted_operations.specs.AddingTerms.{FilesOnlyLookedUp}
use Rattle.slotted_operations.specs.Explaining.{AddsTerms, KeepsKnown}
use Rattle.slotted_operations.specs.Graph.{FilesOnlySubterms, Graph, RecordsUnion, id_of_term}
use Rattle.slotted_operations.specs.Image.{IsUnion, asserted_in}
use Rattle.slotted_operations.specs.LookUp.{HasSameClasses, IsOneGraph, MakesClassFor, look_up, look_up_term}
use Rattle.slotted_graph.specs.Analysed.{CarriesData, LowersDataWith, MergesData}
use Rattle.slotted_graph.specs.Asked.{Asks, IsAskedBetweenWith}
use Rattle.slotted_graph.specs.Edited.{AssertsMore}
use Rattle.slotted_graph.specs.Extension.{ExtendsTo}
use Rattle.slotted_graph.specs.Rounds.{IsModified}
use Rattle.slotted_graph.specs.States.{IsGraph}

-- by its cases, so that P stands as it is for an analysis that modifies no class
abbrev pub IfUnmodified : Bool → Type 0 → Type 0
IfUnmodified true P = Unit {0}
IfUnmodified false P = P

-- one class at most, for the node with its children filled, by look-up or by canonical nodes
pub record MakesForNode (f : Form) (g h : Graph) : Type 0 where
  pub kept : IsSome (look_up g f) → IsOneGraph g h
  pub id : Applied
  pub made : MakesClassFor g h f id

abbrev pub MakesForSynNode : Form → Graph → Graph → Type 0
MakesForSynNode f g h = (a : Applied) × AddsSyn g h f a

-- those of subterms alone
abbrev pub MakesForTerm : Term → Graph → Graph → Type 0
MakesForTerm t g h = (IsSome (look_up_term g t) → IsOneGraph g h) × FilesOnlyLookedUp g h t

abbrev pub MakesForSynTerm : Term → Graph → Graph → Type 0
MakesForSynTerm t g h = (IsSome (id_of_term g t) → IsOneGraph g h) × FilesOnlySubterms g h t

pub record AddsMore {N D : Type 0} (codes : Coded N × Coded D) (meaning : N → Meaning D) (W : Graph → Graph → Type 0) (g h : Graph) : Type 0 where
  pub graph : IsGraph h
  pub extends : ExtendsTo g h
  pub asserted : asserted_in h.image ≡ asserted_in g.image
  pub carries : CarriesData codes meaning g h
  pub made : W g h

pub record LeavesAskedWith {L N D : Type 0} (given : List (ℕ × D)) (codes : Coded N × Coded D) (meaning : N → Meaning D) (ask : Asks L N D)
    (g h : Graph) : Type 0 where
  pub extends : ExtendsTo g h
  pub asserts : AssertsMore (IsAskedBetweenWith given codes meaning ask g h) g h
  pub lowers : LowersDataWith given codes meaning g h

abbrev pub LeavesAsked : {L N D : Type 0} → Coded N × Coded D → (N → Meaning D) → Asks L N D → Graph → Graph → Type 0
LeavesAsked codes meaning ask g h = LeavesAskedWith [] codes meaning ask g h

pub record AddsAndModifies {L N D : Type 0} (codes : Coded N × Coded D) (meaning : N → Meaning D) (ask : Asks L N D) (modifies : Bool) (W : Graph → Graph → Type 0) (g h : Graph) : Type 0 where
  pub added : Graph
  pub adds : AddsMore codes meaning W g added
  pub modified : Graph
  pub asked : Bool
  pub rounds : IsModified codes meaning ask modifies added modified asked
  pub again : (h ≡ modified) ⊎ AddsMore codes meaning W modified h

pub record AddsSynBefore (g h : Graph) (f : Form) (a : Applied) : Type 0 where
  pub added : Graph
  pub syn : AddsSyn g added f a
  pub extends : ExtendsTo added h

pub record UnitesAndModifies {L N D : Type 0} (codes : Coded N × Coded D) (meaning : N → Meaning D) (ask : Asks L N D) (modifies : Bool) (g h : Graph) (l r : AppliedId) (text : Option (List ℕ)) (y : Bool) : Type 0 where
  pub united : Graph
  pub union : IsUnion g.image united.image (to_applied l) (to_applied r) y
  pub records : RecordsUnion g united l r text
  pub filed : y ≡ false → united.filed ≡ g.filed
  pub table : united.table ≡ g.table
  pub carries : CarriesData codes meaning g united
  pub asked : Bool
  pub rounds : IsModified codes meaning ask modifies united h asked

pub record MergesAndModifies {L N D : Type 0} (codes : Coded N × Coded D) (meaning : N → Meaning D) (ask : Asks L N D) (modifies : Bool) (g h : Graph) (i : ℕ) (v : D) : Type 0 where
  pub merged : Graph
  pub merges : MergesData codes meaning g merged i v
  pub same : HasSameClasses g merged
  pub asked : Bool
  pub rounds : IsModified codes meaning ask modifies merged h asked

-- nothing is asked once both terms were added
pub record ExplainsAndModifies {L N D : Type 0} (codes : Coded N × Coded D) (meaning : N → Meaning D) (ask : Asks L N D) (modifies : Bool) (t u : Term) (g h : Graph) : Type 0 where
  pub first : Graph
  pub left : AddsAndModifies codes meaning ask modifies (MakesForSynTerm t) g first
  pub both : Graph
  pub right : AddsAndModifies codes meaning ask modifies (MakesForSynTerm u) first both
  pub adds : AddsTerms both.image h.image
  pub kept : KeepsKnown both h t u
  pub carries : CarriesData codes meaning both h
